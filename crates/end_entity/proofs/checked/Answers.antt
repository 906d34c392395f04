-- By the row: refused, or no row applies.
use Rattle.std.proofs.Common.{◌∙◌, ap, sym, refl}
use Rattle.protocol.specs.Message.{fields_of}
use Rattle.protocol.specs.Refusals.{LowestRow}
use Rattle.protocol.specs.EndEntity.{enrolment_refused, end_entity_checked}
use Rattle.end_entity.proofs.CheckedLaws.{refused_by, passes_it, answered}
use Rattle.end_entity.proofs.checked.Goals as goal

pub returns-in-Some : goal.returns-in-Some
unfolding fields_of
returns-in-Some c =
    c.refused.ensures ∙ ap (enrolment_refused c.in-Some.number) c.after_refusal.ensures ∙ refused_by c.args.enrolment c.args.input (fields_of c.args.bytes.now c.args.m) c.in-Some.number c.lowest_refusal.ensures c.in-Some.is

pub returns : goal.returns
unfolding fields_of
returns c =
    let x = c.args.enrolment in
    let d = c.args.input in
    let m = fields_of c.args.bytes.now c.args.m in
    let z = passes_it x d m c.lowest_refusal.ensures c.in_default.is in
    c.taken.ensures m refl (sym c.status_or_0-status.ensures) (sym (answered x d c.args.bytes.now c.args.m c.nonce_of-answered.result z c.nonce_of-answered.ensures))
    ∙ ap (λ (k : LowestRow). end_entity_checked k x d m) (sym z)
