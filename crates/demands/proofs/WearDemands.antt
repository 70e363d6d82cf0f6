-- What is demanded of wear, proved from the operation's contract.
-- Main: wear_says.
use Rattle.std.specs.Prelude.{◌≡◌, ◌⊎◌, Bool, true, false, List, Result}
use Rattle.refusal.specs.declared.Refusal.{Refusal}
use Rattle.wear.specs.declared.runs.Run.{Run}
use Rattle.std.proofs.Math.Path.{refl, ap}
use Rattle.std.proofs.Common.{sym, ◌∙◌, eq-eqb, ne_eqb}
use Rattle.std.proofs.Math.Logic.{inl, inr}
use Prim.Native.Nat.{ℕ, zero, suc, ◌+◌, ◌≤◌}
use Rattle.std.proofs.Math.Decide.{ℕ_discrete}
use native.Mathlib.Omega.{arith}
use Rattle.refusal.specs.Replies.{Reply, reply_with}
use Rattle.book.specs.Layout.{body_good}
use Rattle.book.specs.Reading.{CardValue, cards_in, reading}
use Rattle.wear.specs.Wear.{reading_wear, card_wear, run_sum, worst_run, width_bad, wear_refusal, no_run, wear_reply}
use Rattle.wear.specs.Worst.{fits, worst_is}
use Rattle.demands.specs.Demands.{Wears, RunWears, none_wear, one_wears, RunAt, WorstRun, wearing_refusal, WearAs, WearSays}
use Rattle.demands.specs.Settled.{said_once}
use Rattle.demands.proofs.BookDemands.{read_is}

module _ (bs : List ℕ) where
  -- A CARD wears by its number of the definition, and by no other
  wears_is : (n : ℕ) → Wears bs n (card_wear bs n)
  unfolding Wears card_wear reading_wear
  wears_is n =
      elim (ℕ_discrete (reading bs n).refusal 0) [
        | yes e ↦ (reading bs n, read_is bs n, inl (e, rw (eq-eqb (reading bs n).refusal 0 e)))
        | no d ↦ (reading bs n, read_is bs n, inr (omega arith, rw (ne_eqb (reading bs n).refusal 0 d)))
      ]

  worn_by : (r : Reply CardValue) (x : ℕ) → ((r.refusal ≡ 0) × (x ≡ r.value.damage.rank)) ⊎ ((1 ≤ r.refusal) × (x ≡ 3)) → x ≡ reading_wear r
  unfolding reading_wear
  worn_by r x (inl (e, q)) = rw (eq-eqb r.refusal 0 e) q
  worn_by r x (inr (h, q)) = rw (ne_eqb r.refusal 0 (λ e. omega arith)) q

  wears_only : (n x : ℕ) → Wears bs n x → x ≡ card_wear bs n
  unfolding Wears card_wear
  wears_only n x (r, h, w) = worn_by r x w ∙ ap reading_wear (said_once bs n r (reading bs n) h (read_is bs n))

  -- A RUN likewise
  run_is : (w n : ℕ) → RunWears bs w n (run_sum (card_wear bs) w n)
  unfolding run_sum
  run_is zero n = none_wear n
  run_is (suc w) n = one_wears w n _ _ (run_is w n) (wears_is (n + w))

  run_only : {w n s : ℕ} → RunWears bs w n s → s ≡ run_sum (card_wear bs) w n
  unfolding run_sum
  run_only (none_wear n) = refl
  run_only (one_wears w n s x r h) = let p = run_only r in let q = wears_only (n + w) x h in cc

  -- THE WORST, where the tests passed
  run_at : (w n s : ℕ) → 1 ≤ n → n + w ≤ cards_in bs + 1 → s ≡ run_sum (card_wear bs) w n → RunAt bs w n s
  unfolding RunAt
  run_at w n s l h e = (l, h, rw e (run_is w n))

  worst : (w : ℕ) → w ≤ cards_in bs → WorstRun bs w (worst_run bs w).first (worst_run bs w).sum
  unfolding WorstRun RunAt
  worst w h =
      let g = worst_is bs w h in (
        run_at w _ _ g.low (omega (arith, g.high)) (sym g.has),
        (λ m t r. omega (arith, run_only r.2, g.most m r.0 (omega (arith, r.1)))),
        λ m t l r. omega (arith, run_only r.2, g.before m r.0 l),
      )

pub wear_says : (bs : List ℕ) (w : ℕ) (r : Result Run Refusal) → wear_reply r ≡ reply_with no_run (wear_refusal bs w) (worst_run bs w) → WearSays bs w (wear_reply r)
unfolding WearSays WearAs wearing_refusal wear_refusal width_bad reply_with
wear_says bs w r e = rw e (go (body_good bs) refl (width_bad bs w) refl)
  where
    go : (g : Bool) → body_good bs ≡ g → (b : Bool) → width_bad bs w ≡ b → WearSays bs w (reply_with no_run (wear_refusal bs w) (worst_run bs w))
    go false p b q = rw p
    go true p true q = rw (p, q)
    go true p false q = rw (p, q) (refl, worst bs w (fits bs w p q).cards)
