-- A tune by its place in the contents.
-- Main: entry_fields, entry_tune, entry_parts, tune_reply, place_refusal, tune_at.
use Rattle.std.specs.Prelude.{◌≡◌, cond, List, ℕ, ltb, eqb, Result}
use Rattle.std.proofs.Common.{ap}
use Rattle.refusal.specs.Replies.{number, Reply, reply_or, reply_with}
use Rattle.refusal.specs.declared.Refusal.{Refusal}
use Rattle.refusal.specs.declared.Refusal.TheVariants.{NoSuchTune}
use Rattle.book.specs.declared.entries.Tune.{Tune}
use Rattle.book.specs.declared.fields.Fields.{Fields}
use Rattle.book.specs.Layout.{tunes, tune_number, offset, cards}
use Rattle.book.specs.Open.{open_refusal}

-- what an entry of the contents says
abbrev pub entry_fields : List ℕ → (e : ℕ) → Fields
entry_fields bs e = record { number = tune_number bs e; offset = offset bs e; cards = cards bs e }

-- a tune of the contents, and what a refusal has in its place
unfoldable pub entry_tune : List ℕ → (e : ℕ) → Tune
entry_tune bs e = record { number = tune_number bs e; cards = cards bs e }

pub entry_parts : (bs : List ℕ) (e : ℕ) (t : Tune) → t ≡ entry_tune bs e → (t.number ≡ tune_number bs e) × (t.cards ≡ cards bs e)
unfolding entry_tune
entry_parts bs e t h = (ap (λ (x : Tune). x.number) h, ap (λ (x : Tune). x.cards) h)

abbrev pub no_tune : Tune
no_tune = record { number = 0; cards = 0 }

-- what an answer says
abbrev pub tune_reply : Result Tune Refusal → Reply Tune
tune_reply r = reply_or no_tune r

-- as Open; then 8 if the contents has no entry e, counted from 0
unfoldable pub place_refusal : List ℕ → (e : ℕ) → ℕ
place_refusal bs e = cond (eqb (open_refusal bs) 0) (cond (ltb e (tunes bs)) 0 (number NoSuchTune)) (open_refusal bs)

unfoldable pub tune_at : List ℕ → (e : ℕ) → Reply Tune
tune_at bs e = reply_with no_tune (place_refusal bs e) (entry_tune bs e)
