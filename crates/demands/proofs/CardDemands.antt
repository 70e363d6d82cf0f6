-- What is demanded of the code, and of Press, Weigh, Test and Mend, also with dead lines, from their contracts, proved.
-- Main: near_alike, code_says, press_says, weigh_says, test_says, the_near, mend_says, mend_dead_says, mends_alike.
use Rattle.std.specs.Prelude.{◌≡◌, Bool, true, false, cond, List, ltb, eqb, length, Result}
use Rattle.refusal.specs.declared.Refusal.{Refusal}
use Rattle.std.proofs.Math.Path.{refl, ap}
use Rattle.std.proofs.Common.{sym, ◌∙◌, arith}
use Rattle.std.proofs.Math.Logic.{inl, inr}
use Rattle.std.proofs.Math.Bool.{or-false}
use Rattle.std.proofs.Math.Option.{Option, none, some}
use Prim.Native.Nat.{ℕ, zero, suc, ◌+◌, ◌-◌, ◌≤◌}
use borrow.Author.Tests.{ne_eqb, le-ltb}
use Rattle.algebra.specs.Tests.{any_above}
use Rattle.algebra.proofs.SmallField.{small_field}
use Rattle.refusal.specs.Replies.{outcome, Reply, replied, reply, reply_with, unless}
use Rattle.rank.specs.declared.Weight.{Weight}
use Rattle.rank.specs.Definitions.{is_card, apart}
use Rattle.rank.specs.Distance.{rank_even}
use Rattle.rank.specs.Echelon.{rank_at_most}
use Rattle.rank.specs.Mask.{ones}
use Rattle.rank.specs.Weight.{weight_of, no_weight, weight_reply, weight_refusal}
use Rattle.coding.specs.Code.{word, radius}
use Rattle.coding.specs.Promise.{OneNear}
use Rattle.coding.specs.Decode.{decode}
use Rattle.coding.specs.Mu.{mu, mu_is, mu_alone}
use Rattle.coding.specs.Proved.{far_apart, words_cards, one_near, mu_there, test_tells, decoded, decode_none}
use Rattle.dead_lines.specs.Struck.{dead_lines, OneNearDead}
use Rattle.dead_lines.specs.OneNear.{one_near_dead}
use Rattle.dead_lines.specs.DecodeDead.{decode_dead, decoded_dead, decode_dead_none, live_rank_none}
use Rattle.codec.specs.Operations.{k_bad, tests, encode_refusal, Encoded, syndrome_refusal, Tested}
use Rattle.codec.specs.Refusals.{syndrome_passed}
use Rattle.decoder.specs.Filling.{undecodable, or_empty, or_undecodable}
use Rattle.decoder.specs.Decoding.{lengths_bad, decode_tests, decode_refusal, decoded_word, damage, Decoded, decode_passed}
use Rattle.dead_decoder.specs.Operation.{dead_input, dead_tests, dead_refusal, dead_word, DeadDecoded, dead_passed}
use Rattle.demands.specs.Demands.{NearAlike, CodeSays, PressSays, press_refusal, WeighSays, weigh_refusal, TestSays, TestAs, test_refusal}
use Rattle.demands.specs.Demands.{TheNear, MendSays, MendAs, Mended, Hopeless, mend_refusal, MendsAlike}
use Rattle.demands.specs.Demands.{TheNearDead, MendDeadSays, MendDeadAs, MendedDead, HopelessDead, mend_dead_refusal}
use Rattle.demands.specs.Settled.{mend_dead_settled}

-- THE CODE ITSELF
pub near_alike : NearAlike
unfolding NearAlike radius dead_lines ones
near_alike k c m =
    let e = live_rank_none (word k m) c in
    (λ h. record { message = h.message; within = omega (arith, e, h.within) }, λ h. record { message = h.message; within = omega (arith, e, h.within) })

pub code_says : CodeSays
code_says = record {
  small_field = small_field;
  rank_even = rank_even;
  far_apart = far_apart;
  words_cards = words_cards;
  mu_there = mu_there;
  test_tells = test_tells;
  one_near = one_near;
  one_near_dead = one_near_dead;
  near_alike = near_alike;
}

-- PRESS
pub press_says : {k : ℕ} {m w : List ℕ} {r : Result Unit Refusal} {v : List ℕ} → Encoded k m w r v → PressSays k m (outcome r) w v
unfolding PressSays press_refusal encode_refusal tests unless
press_says e = (e.answers, e.word_is)

-- WEIGH
pub weigh_says : (c : List ℕ) (r : Result Weight Refusal) → weight_reply r ≡ reply_with no_weight (weight_refusal c) (weight_of c) → WeighSays c (weight_reply r)
unfolding WeighSays weigh_refusal weight_refusal weight_of reply_with
weigh_says c r e = (e, rw e (within (eqb (weight_refusal c) 0)))
  where
    within : (b : Bool) → (cond b (weight_of c) no_weight).rank ≤ 6
    within true = rank_at_most c
    within false = omega arith

-- TEST
module _ {k : ℕ} {c t : List ℕ} {r : Result Unit Refusal} {z : List ℕ} (d : Tested k c t r z) where
  test_as : (n : ℕ) → syndrome_refusal k c (length t) ≡ n → TestAs n k c (outcome r) t z
  unfolding TestAs unless
  test_as zero e =
      let (low, high, _, _) = syndrome_passed k c (length t) e in
      rw (d.answers, d.values_are, e) (refl, (mu k, record { is = mu_is k low high; alone = mu_alone k }, refl))
  test_as (suc n) e = rw (d.answers, d.values_are, e, ne_eqb (suc n) 0 (λ q. omega arith)) (refl, refl)

  pub test_says : TestSays k c (outcome r) t z
  unfolding TestSays test_refusal syndrome_refusal tests
  test_says = test_as _ refl

-- MEND: what decode finds is the one message near the card
pub the_near : (k : ℕ) → 1 ≤ k → k ≤ 5 → (c : List ℕ) → is_card c ≡ true → (m : List ℕ) → decode k c ≡ some m → TheNear k c m
unfolding OneNear
the_near k low high c card m e =
    let near = (decoded k low high c card m).0 e in
    (near, λ p h. (one_near k c p m low high card h near).0)

module _ {k : ℕ} {c w m : List ℕ} {r : Result Weight Refusal} {v n : List ℕ} (d : Decoded k c w m r v n) where
  passed : (o : Option (List ℕ)) → decode k c ≡ o → decode_tests k c (length w) (length m) ≡ 0 → MendAs 0 k c (weight_reply r) w v m n
  unfolding MendAs Mended Hopeless decode_refusal or_undecodable reply_with unless undecodable or_empty decoded_word damage
  passed none q e = rw (d.answers, d.word_is, d.message_is, e, q) (inr ((decode_none k c).0 q, refl, refl, refl))
  passed (some p) q e =
      let (low, high, _, card, _, _) = decode_passed k c (length w) (length m) e in
      rw (d.answers, d.word_is, d.message_is, e, q) (inl (the_near k low high c card p q, refl, refl))

  mend_as : (x : ℕ) → decode_tests k c (length w) (length m) ≡ x → MendAs x k c (weight_reply r) w v m n
  unfolding MendAs decode_refusal or_undecodable reply_with unless
  mend_as zero e = passed (decode k c) refl e
  mend_as (suc x) e =
      let b = ne_eqb (suc x) 0 (λ z. omega arith) in
      rw (d.answers, d.word_is, d.message_is, e, b, b) (refl, refl, refl)

  pub mend_says : MendSays k c (weight_reply r) w v m n
  unfolding MendSays mend_refusal decode_tests lengths_bad tests
  mend_says = mend_as _ refl

-- MEND WITH DEAD LINES, in the same way
pub the_near_dead : (k : ℕ) → 1 ≤ k → k ≤ 5 → (ρ σ : ℕ) (c : List ℕ) → is_card c ≡ true → (m : List ℕ) → decode_dead k ρ σ c ≡ some m → TheNearDead k ρ σ c m
unfolding OneNearDead
the_near_dead k low high ρ σ c card m e =
    let near = (decoded_dead k low high ρ σ c card m).0 e in
    (near, λ p h. one_near_dead k ρ σ c p m low high card h near)

-- 11 comes after 1, 2 and 3
lines_last : (d l r s : Bool) → cond (eqb (tests d l r) 0) (cond s 11 0) (tests d l r) ≡ cond d 1 (cond l 2 (cond r 3 (cond s 11 0)))
unfolding tests
lines_last true l r s = refl
lines_last false true r s = refl
lines_last false false true s = refl
lines_last false false false s = refl

module _ {k : ℕ} {c : List ℕ} {ρ σ : ℕ} {w m : List ℕ} {r : Result ℕ Refusal} {v n : List ℕ} (d : DeadDecoded k c ρ σ w m r v n) where
  dead_passes : (o : Option (List ℕ)) → decode_dead k ρ σ c ≡ o → dead_tests k c ρ σ (length w) (length m) ≡ 0 → MendDeadAs 0 k c ρ σ (reply r) w v m n
  unfolding MendDeadAs MendedDead HopelessDead dead_refusal or_undecodable reply_with unless undecodable or_empty dead_word
  dead_passes none q e = rw (d.answers, d.word_is, d.message_is, e, q) (inr ((decode_dead_none k ρ σ c).0 q, refl, refl, refl))
  dead_passes (some p) q e =
      let (low, high, _, card, _, _, _, _, _) = dead_passed k c ρ σ (length w) (length m) e in
      rw (d.answers, d.word_is, d.message_is, e, q) (inl (the_near_dead k low high ρ σ c card p q, refl, refl))

  mend_dead_as : (x : ℕ) → dead_tests k c ρ σ (length w) (length m) ≡ x → MendDeadAs x k c ρ σ (reply r) w v m n
  unfolding MendDeadAs dead_refusal or_undecodable reply_with unless
  mend_dead_as zero e = dead_passes (decode_dead k ρ σ c) refl e
  mend_dead_as (suc x) e =
      let b = ne_eqb (suc x) 0 (λ z. omega arith) in
      rw (d.answers, d.word_is, d.message_is, e, b, b) (refl, refl, refl)

  pub mend_dead_says : MendDeadSays k c ρ σ (reply r) w v m n
  unfolding MendDeadSays mend_dead_refusal dead_tests dead_input lengths_bad
  mend_dead_says = mend_dead_as _ (lines_last (k_bad k) _ _ (ltb (6 - k) (dead_lines ρ + dead_lines σ)))

-- WITH NO DEAD LINE the refusals are Mend's, and what is said of Mend is said of it
none_dead : (k : ℕ) (c : List ℕ) (w m : ℕ) → mend_dead_refusal k c 0 0 w m ≡ mend_refusal k c w m
unfolding mend_dead_refusal mend_refusal dead_lines ones
none_dead k c w m = rw (or-false (any_above 728 c), le-ltb (6 - k) 0 (omega arith))

-- a rank as a number
abbrev in_number : Reply Weight → Reply ℕ
in_number s = record { refusal = s.refusal; value = s.value.rank }

module _ (k : ℕ) (c w m : List ℕ) (s : Reply Weight) (u o : List ℕ) where
  mend_alike : (x : ℕ) → MendAs x k c s w u m o → MendDeadAs x k c 0 0 (in_number s) w u m o
  unfolding MendAs Mended Hopeless MendDeadAs MendedDead HopelessDead NearAlike weight_of apart
  mend_alike zero (inl (near, e, h)) =
      inl (((near_alike k c o).1 near.0, λ p d. near.1 p ((near_alike k c p).0 d)), e, ap in_number h ∙ ap replied (sym (live_rank_none (word k o) c)))
  mend_alike zero (inr (far, e, f, h)) = inr (λ p d. far p ((near_alike k c p).0 d), e, f, ap in_number h)
  mend_alike (suc x) (e, f, h) = (e, f, ap in_number h)

pub mends_alike : {k : ℕ} {c w m : List ℕ} {r : Result ℕ Refusal} {v n : List ℕ} → DeadDecoded k c 0 0 w m r v n → MendsAlike k c (reply r) w v m n
unfolding MendsAlike MendSays MendDeadSays
mends_alike {k} {c} {w} {m} {r} {v} {n} d s u o h =
    let dead = rw (none_dead k c (length w) (length m)) at (mend_dead_says d) in
    let same = mend_dead_settled k c 0 0 w m (reply r) (in_number s) v u n o _ dead (mend_alike k c w m s u o _ h) in
    (ap (λ (t : Reply ℕ). t.refusal) same.0, ap (λ (t : Reply ℕ). t.value) same.0, same.1, same.2)
