-- Each byte's test.
use Rattle.std.proofs.Common.{◌∙◌, eqb, rules, tests}
use Rattle.std.proofs.lemmas.Iterator.{YieldsList-from_slice}
use Rattle.std.proofs.lemmas.Iterator.Search.{all_from_yields_List}
use Rattle.given.proofs.FitsLaws.{blank-all}
use Rattle.given.proofs.fits.blank.Goals as goal

pub returns : goal.returns
returns c =
    let x = c.args.x.now in all_from_yields_List (λ b. eqb b 0) _ _ _ c.all.ensures.ran (YieldsList-from_slice x cc) (λ x b q k. search (rules, tests)) ∙ blank-all x
