-- What decode_dead answers and leaves in the lists lent to it (document 02, P4), and how that follows from what was tested and found. A refusal
-- leaves every list as it was.
-- Main: dead_input, dead_tests, dead_refusal, dead_word, DeadDecoded, input_refused, rows_refused, columns_refused, lines_refused, tests_done,
-- dead_passed, finds_none, finds_lines, some_line, dead_decoded_refused, found_room, dead_decoded_none, dead_decoded_done.
use Rattle.std.specs.Prelude.{◌≡◌, refl, ◌≢◌, Bool, true, false, ◌||◌, cond, List, ℕ, ◌+◌, ◌*◌, ◌-◌, ◌≤◌, ◌<◌, eqb, length, Result, Ok, Err, Some, None, IfSome, option_map}
use Rattle.std.specs.declared.option.Option as found
use Rattle.std.proofs.Math.Path.{sym, ap}
use Rattle.std.proofs.Common.{◌∙◌, arith}
use Rattle.std.proofs.Math.Dec.{ltb}
use borrow.Author.Tests.{eqb-true, eqb-false, ltb-false, lt-ltb, le-ltb}
use Rattle.algebra.specs.Lists.{table}
use Rattle.algebra.specs.Tests.{any_above, neither, every, tested_if}
use Rattle.refusal.specs.declared.Refusal.{Refusal}
use Rattle.refusal.specs.declared.Refusal.TheVariants.{Range, DeadLines}
use Rattle.refusal.specs.Replies.{number, number_not_zero, refusal_some, outcome, replied, reply, reply_with, refused_reply, value_reply, reply_refused, reply_value, unless}
use Rattle.rank.specs.Mask.{ones}
use Rattle.rank.specs.Definitions.{at, is_card, difference}
use Rattle.rank.specs.declared.Weight.{Weight}
use Rattle.rank.specs.Weight.{weight_of, no_weight, weight_rank, weight_reply}
use Rattle.coding.specs.Code.{word}
use Rattle.coding.specs.Spectrum.{spectrum}
use Rattle.coding.specs.Decode.{decode}
use Rattle.codec.specs.Operations.{k_bad, tests}
use Rattle.codec.specs.Refusals.{tests_passed}
use Rattle.candidate.specs.declared.found.Found.{Found}
use Rattle.candidate.specs.Finding.{found_message, Matches, Consistent, found_fits}
use Rattle.candidate.specs.Places.{entry_is}
use Rattle.decoder.specs.Filling.{or_empty, or_undecodable, filling, Filled, filling_fits, tests_refused, filled_word, filled_message, filled_weight}
use Rattle.decoder.specs.Decoding.{lengths_bad, decode_tests, decode_passed}
use Rattle.dead_lines.specs.Struck.{dead_lines, live_rank}
use Rattle.dead_lines.specs.Blanked.{blanked, struck_rank}
use Rattle.dead_lines.specs.DecodeDead.{decode_dead, blanked_none, no_dead_line}
use Rattle.dead_lines.specs.Steps.{Step, line_stepped, stepped_same}
use Rattle.dead_lines.specs.Multipliers.{steps}
use Rattle.dead_lines.specs.Solving.{solve}
use Rattle.dead_lines.proofs.Solving.{solve_is_decode}
use Rattle.dead_decoder.specs.declared.card.DeadCard.{DeadCard}
use Rattle.dead_decoder.specs.Finds.{order, Finds}

-- the tests of a card, of its masks, and of the room for its word and its message: 1, 2, 3
unfoldable pub dead_input : (k : ℕ) → (card : List ℕ) → (rows columns : ℕ) → (word_room message-room : ℕ) → ℕ
dead_input k c ρ σ w m = tests (k_bad k) (lengths_bad k c w m) (any_above 728 c || (ltb 63 ρ || ltb 63 σ))

-- then 11 for more dead lines than 6 - k
unfoldable pub dead_tests : (k : ℕ) → (card : List ℕ) → (rows columns : ℕ) → (word_room message-room : ℕ) → ℕ
dead_tests k c ρ σ w m = cond (eqb (dead_input k c ρ σ w m) 0) (cond (ltb (6 - k) (dead_lines ρ + dead_lines σ)) (number DeadLines) 0) (dead_input k c ρ σ w m)

-- then 4
unfoldable pub dead_refusal : (k : ℕ) → (card : List ℕ) → (rows columns : ℕ) → (word_room message-room : ℕ) → ℕ
dead_refusal k c ρ σ w m = or_undecodable (dead_tests k c ρ σ w m) (decode_dead k ρ σ c)

-- the word of the message near a card but for its dead lines
unfoldable pub dead_word : (k ρ σ : ℕ) → (card : List ℕ) → List ℕ
dead_word k ρ σ c = word k (or_empty (decode_dead k ρ σ c))

pub record DeadDecoded (k : ℕ) (c : List ℕ) (ρ σ : ℕ) (w m : List ℕ) (r : Result ℕ Refusal) (w-now m-now : List ℕ) : Type 0 where
  pub answers : reply r ≡ reply_with 0 (dead_refusal k c ρ σ (length w) (length m)) (live_rank ρ σ (dead_word k ρ σ c) c)
  pub word_is : w-now ≡ unless (dead_refusal k c ρ σ (length w) (length m)) (dead_word k ρ σ c) w
  pub message_is : m-now ≡ unless (dead_refusal k c ρ σ (length w) (length m)) (or_empty (decode_dead k ρ σ c)) m

-- THE TESTS, one after the other: those of decode, the masks, and the number of lines
input_after : (d l r s : Bool) → tests d l (r || s) ≡ cond (eqb (tests d l r) 0) (cond s (number Range) 0) (tests d l r)
unfolding tests
input_after true l r s = refl
input_after false true r s = refl
input_after false false true s = refl
input_after false false false s = refl

-- a mask that is refused, and one that is not
mask_refused : (b : Bool) (x : Refusal) → number x ≡ tests false false b → (b ≡ true) × (number x ≡ number Range)
unfolding tests
mask_refused true x e = (refl, e)
mask_refused false x e = absurd (refusal_some x e)

mask_good : (b : Bool) → 0 ≡ tests false false b → b ≡ false
mask_good b e = (tests_passed false false b (sym e)).2

module _ (k : ℕ) (c : List ℕ) (ρ σ w m : ℕ) where
  input_is : dead_input k c ρ σ w m ≡ cond (eqb (decode_tests k c w m) 0) (cond (ltb 63 ρ || ltb 63 σ) (number Range) 0) (decode_tests k c w m)
  unfolding dead_input decode_tests
  input_is = input_after (k_bad k) (lengths_bad k c w m) (any_above 728 c) (ltb 63 ρ || ltb 63 σ)

  pub input_refused : (x : Refusal) → number x ≡ decode_tests k c w m → number x ≡ dead_tests k c ρ σ w m
  unfolding dead_tests
  input_refused x e =
      let z : eqb (decode_tests k c w m) 0 ≡ false = rw (← e) (number_not_zero x) in
      let i : dead_input k c ρ σ w m ≡ decode_tests k c w m = input_is ∙ rw z in
      rw (i, z) e

  module _ (e : 0 ≡ decode_tests k c w m) where
    input_masks : dead_input k c ρ σ w m ≡ cond (ltb 63 ρ || ltb 63 σ) (number Range) 0
    input_masks = input_is ∙ rw (sym e)

    pub masks_refused : (ltb 63 ρ || ltb 63 σ) ≡ true → number Range ≡ dead_tests k c ρ σ w m
    unfolding dead_tests
    masks_refused b = rw (input_masks, b)

    pub rows_refused : (x : Refusal) → number x ≡ tests false false (ltb 63 ρ) → number x ≡ dead_tests k c ρ σ w m
    rows_refused x r = let (b, n) = mask_refused (ltb 63 ρ) x r in n ∙ masks_refused (rw b)

    module _ (r : 0 ≡ tests false false (ltb 63 ρ)) where
      pub columns_refused : (x : Refusal) → number x ≡ tests false false (ltb 63 σ) → number x ≡ dead_tests k c ρ σ w m
      columns_refused x s = let (b, n) = mask_refused (ltb 63 σ) x s in n ∙ masks_refused (rw (mask_good (ltb 63 ρ) r, b))

      module _ (s : 0 ≡ tests false false (ltb 63 σ)) where
        lines_tested : dead_tests k c ρ σ w m ≡ cond (ltb (6 - k) (dead_lines ρ + dead_lines σ)) (number DeadLines) 0
        unfolding dead_tests
        lines_tested = rw (input_masks, mask_good (ltb 63 ρ) r, mask_good (ltb 63 σ) s)

        pub lines_refused : 6 < k + dead_lines ρ + dead_lines σ → number DeadLines ≡ dead_tests k c ρ σ w m
        lines_refused l =
            let p = decode_passed k c w m (sym e) in
            sym (lines_tested ∙ rw (lt-ltb (6 - k) (dead_lines ρ + dead_lines σ) (omega (arith, p.1))))

        pub tests_done : k + dead_lines ρ + dead_lines σ ≤ 6 → 0 ≡ dead_tests k c ρ σ w m
        tests_done l = sym (lines_tested ∙ rw (le-ltb (6 - k) (dead_lines ρ + dead_lines σ) (omega arith)))

-- WHAT THEY SAY once they are passed
both_passed : (n : ℕ) (b : Bool) → cond (eqb n 0) (cond b (number DeadLines) 0) n ≡ 0 → (n ≡ 0) × (b ≡ false)
both_passed n b e = go (eqb n 0) refl b e
  where
    go : (t : Bool) → eqb n 0 ≡ t → (b : Bool) → cond t (cond b (number DeadLines) 0) n ≡ 0 → (n ≡ 0) × (b ≡ false)
    go true z true e = absurd (omega arith)
    go true z false e = (eqb-true n 0 z, refl)
    go false z b e = absurd (eqb-false n 0 z e)

pub dead_passed : (k : ℕ) (c : List ℕ) (ρ σ w m : ℕ) → dead_tests k c ρ σ w m ≡ 0
    → (1 ≤ k) × (k ≤ 5) × (length c ≡ 6) × (is_card c ≡ true) × (w ≡ 6) × (m ≡ 2 * k) × (ρ < 64) × (σ < 64) × (k + dead_lines ρ + dead_lines σ ≤ 6)
unfolding dead_tests dead_input decode_tests tests
dead_passed k c ρ σ w m e =
    let (z, few) = both_passed (dead_input k c ρ σ w m) (ltb (6 - k) (dead_lines ρ + dead_lines σ)) e in
    let (d, l, r) = tests_passed (k_bad k) (lengths_bad k c w m) (any_above 728 c || (ltb 63 ρ || ltb 63 σ)) z in
    let (s, t) = neither (any_above 728 c) (ltb 63 ρ || ltb 63 σ) r in
    let (u, v) = neither (ltb 63 ρ) (ltb 63 σ) t in
    let (f, g, six, card, hw, hm) = decode_passed k c w m (rw (d, l, s)) in
    (f, g, six, card, hw, hm, omega (arith, ltb-false 63 ρ u), omega (arith, ltb-false 63 σ v), omega (arith, ltb-false (6 - k) (dead_lines ρ + dead_lines σ) few))

-- WHAT IS FOUND, with the same left of a difference
matches_alike : (k : ℕ) (a b : List ℕ → List ℕ) (r : found.Option Found) → ((v : List ℕ) → a v ≡ b v) → Matches k a r → Matches k b r
matches_alike k a b None e M = tt
matches_alike k a b (Some f) e (q, v) = (q, v ∙ ap weight_of (e f.word))

-- for a card with no dead line it is what decode finds
module _ (d : DeadCard) (f : found.Option Found) where
  pub finds_none : d.rows.bits ≡ 0 → d.columns.bits ≡ 0 → (found_message f ≡ decode d.k.value d.card.symbols) × Consistent d.k.value d.card.symbols f
      → Finds d (decode_dead d.k.value d.rows.bits d.columns.bits d.card.symbols) f
  finds_none zr zc e = rw (zr, zc) (
    e.0 ∙ sym (no_dead_line d.k.value d.card.symbols),
    matches_alike d.k.value _ _ f (λ v. sym (blanked_none v d.card.symbols)) e.1,
  )

  -- else what solve finds by the card's coefficients h, all steps made
  pub finds_lines : 1 ≤ dead_lines d.rows.bits + dead_lines d.columns.bits → (r h : List ℕ)
      → r ≡ table 6 (spectrum d.card.symbols) → h ≡ table 6 (line_stepped (steps d.rows.bits d.columns.bits) (at r))
      → Finds d (solve (order d) d.k.value d.rows.bits d.columns.bits d.card.symbols (at h)) f
      → Finds d (decode_dead d.k.value d.rows.bits d.columns.bits d.card.symbols) f
  finds_lines dead r h er eh e = (
    e.0 ∙ solve_is_decode d.rows.bits d.columns.bits d.rows.six_lines d.columns.six_lines d.k.value d.k.within.0 d.k.within.1 d.card.symbols d.card.is_card (at h)
        (λ i l. entry_is (line_stepped ss (at r)) h eh i l ∙ stepped_same ss (at r) (spectrum d.card.symbols) (entry_is (spectrum d.card.symbols) r er) i l) dead
        d.few_lines,
    e.1,
  )
    where
      ss : List Step
      ss = steps d.rows.bits d.columns.bits

-- a mask that is not 0 has a dead line
no_line : (mask : ℕ) → mask < 64 → dead_lines mask ≡ 0 → mask ≡ 0
unfolding dead_lines ones every
no_line mask h e = eqb-true mask 0 (tested_if 64 dead_lines (λ v. 0) (λ v. eqb v 0) refl mask h e)

pub some_line : (mask : ℕ) → mask < 64 → mask ≢ 0 → 1 ≤ dead_lines mask
some_line mask h o = let f : dead_lines mask ≢ 0 = λ e. o (no_line mask h e) in omega (arith, f)

-- THE ANSWER: refused by a test, or what was found for the card made of what is lent
pub dead_decoded_refused : {A : Type 0} (k : ℕ) (c : List ℕ) (ρ σ : ℕ) (w m : List ℕ) (r : Result A Refusal) (x : Refusal)
    → outcome r ≡ dead_tests k c ρ σ (length w) (length m) → r ≡ Err x → DeadDecoded k c ρ σ w m (Err x) w m
unfolding dead_refusal dead_word
dead_decoded_refused k c ρ σ w m r x e q =
    let (s, v, u) = tests_refused k _ (decode_dead k ρ σ c) w m r x e q in
    record { answers = refused_reply 0 _ _ x s; word_is = v; message_is = u }

module _ (k : ℕ) (c : List ℕ) (ρ σ : ℕ) (w m : List ℕ) (z : dead_tests k c ρ σ (length w) (length m) ≡ 0) (d : DeadCard)
    (made : (d.k.value ≡ k) × (d.card.symbols ≡ c) × (d.rows.bits ≡ ρ) × (d.columns.bits ≡ σ))
    (near : found.Option Found) (finds : Finds d (decode_dead d.k.value d.rows.bits d.columns.bits d.card.symbols) near) where
  abbrev left : List ℕ → List ℕ
  left v = blanked ρ σ (difference v c)

  found_is : found_message near ≡ decode_dead k ρ σ c
  found_is = rw (made.0, made.1, made.2, made.3) at finds.0

  matches : Matches k left near
  matches = rw (made.0, made.1, made.2, made.3) at finds.1

  -- it fits into the room
  pub found_room : IfSome (option_map filling near) (λ f. (length f.word ≡ length w) × (length m ≤ length f.numbers))
  found_room =
      let (p, q, six, card, hw, hm, hρ, hσ, few) = dead_passed k c ρ σ (length w) (length m) z in
      filling_fits w m near (found_fits k left near w m matches hw hm)

  module _ (r : Result Weight Refusal) (w-now m-now : List ℕ) (F : Filled (option_map filling near) w m r w-now m-now) where
    long : length m ≡ 2 * k
    long = (dead_passed k c ρ σ (length w) (length m) z).5

    weighed : weight_reply r ≡ reply_with no_weight (dead_refusal k c ρ σ (length w) (length m)) (weight_of (left (dead_word k ρ σ c)))
    unfolding dead_refusal dead_word
    weighed = filled_weight k _ _ w m z left long r w-now m-now near found_is matches F

    word_filled : w-now ≡ unless (dead_refusal k c ρ σ (length w) (length m)) (dead_word k ρ σ c) w
    unfolding dead_refusal dead_word
    word_filled = filled_word k _ _ w m z left long r w-now m-now near found_is matches F

    message_filled : m-now ≡ unless (dead_refusal k c ρ σ (length w) (length m)) (or_empty (decode_dead k ρ σ c)) m
    unfolding dead_refusal
    message_filled = filled_message k _ _ w m z left long r w-now m-now near found_is matches F

    rank_is : (weight_of (left (dead_word k ρ σ c))).rank ≡ live_rank ρ σ (dead_word k ρ σ c) c
    unfolding live_rank
    rank_is = weight_rank _ ∙ sym (struck_rank ρ σ _)

    pub dead_decoded_none : (x : Refusal) → r ≡ Err x → DeadDecoded k c ρ σ w m (Err x) w-now m-now
    dead_decoded_none x q =
        let (s, o) = reply_refused no_weight _ _ x (rw q at weighed) in
        record { answers = refused_reply 0 _ _ x s; word_is = word_filled; message_is = message_filled }

    pub dead_decoded_done : (v : Weight) → r ≡ Ok v → DeadDecoded k c ρ σ w m (Ok v.rank) w-now m-now
    dead_decoded_done v q =
        let (s, e) = reply_value no_weight _ _ v (rw q at weighed) in
        record {
          answers = ap replied (ap (λ (x : Weight). x.rank) e ∙ rank_is) ∙ value_reply 0 _ _ s;
          word_is = word_filled;
          message_is = message_filled;
        }
