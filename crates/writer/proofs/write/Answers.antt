-- By the size, the room, and the fit.
use native.Mathlib.Omega.{arith}
use Rattle.der.proofs.Auto.{told}
use Rattle.writer.proofs.Writes.{message-size, over, short, unfit, written}
use Rattle.writer.proofs.write.Goals as goal

pub returns-then-n-gt-MAX_MESSAGE : goal.returns-then-n-gt-MAX_MESSAGE
returns-then-n-gt-MAX_MESSAGE c =
    over _ _ _ _ (message-size _ _ c.message_content_size.ensures c.around.ensures (omega arith)) c.if-n-gt-MAX_MESSAGE.true

pub returns-then-buf-n : goal.returns-then-buf-n
returns-then-buf-n c =
    short _ _ _ _ (message-size _ _ c.message_content_size.ensures c.around.ensures (omega arith)) (omega arith) c.if-buf-n.true

pub returns : goal.returns
returns c =
    written _ _ _ _ (message-size _ _ c.message_content_size.ensures c.around.ensures (omega arith)) (omega arith) (omega arith) (told c.all_fit.ensures c.if-not-all_fit.false) c.write_message.ensures

pub returns-then-not-all_fit : goal.returns-then-not-all_fit
returns-then-not-all_fit c =
    unfit _ _ _ _ (message-size _ _ c.message_content_size.ensures c.around.ensures (omega arith)) (omega arith) c.if-buf-n.false (told c.all_fit.ensures c.if-not-all_fit.true)
