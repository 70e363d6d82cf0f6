-- `codec::encoding::encode` meets its contract: the tests decide, and then the list is filled with the word. Assumes nothing.
use Rattle.std.proofs.Common.{◌≡◌, ℕ, length, take, ap, ap₂, ◌∙◌, arith}
use Rattle.std.proofs.Math.Seq.{take_all}
use Rattle.std.proofs.lemmas.Result.{err_from_is_err_and}
use Rattle.coding.specs.Code.{word}
use Rattle.refusal.specs.Replies.{no_refusal}
use Rattle.codec.specs.Refusals.{encode_passed, encoded_refused, encoded_done}
use Rattle.codec.proofs.encoding.encode.Goals as goal
use Rattle.codec.proofs.encoding.encode.Goals.{In_ok-message}

pub returns-in_err-message : goal.returns-in_err-message
returns-in_err-message c =
    let p = err_from_is_err_and c.from_residual.result c.from_residual.ensures.1 in
    rw (p.1, p.2) (encoded_refused c.args.k c.args.message.now c.args.word.now _ c.message_of.ensures.tested _ c.in_err-message.was)

-- there is room for the word
room : (v : In_ok-message) → length v.args.word.now ≡ 6
room v = (encode_passed _ _ _ (no_refusal _ _ v.message_of.ensures.tested v.in_ok-message.was)).4

pub returns : goal.returns
returns c =
    let (k, m) = c.in_ok-message.ensures.message_is in
    encoded_done c.args.k c.args.message.now c.args.word.now _ c.message_of.ensures.tested _ c.in_ok-message.was _
    (c.fill.ensures ∙ ap (λ (n : ℕ). take n c.word.result) (room (goal.at.returns c).In_ok-message) ∙ take_all 6 _ (omega arith)
    ∙ c.word.ensures ∙ ap₂ word k m)
