-- The spectrum of a card and the word of a message as linear functions, by packed digits: of the six symbols of a card, and of the small numbers of
-- a message in ten places, of which a message for k fills the first 2k.
-- Main: spectrum_map, spectrum_mapped, low_at, high_at, message_numbers, word_map, word_mapped, SmallNumbers, message_small,
-- high_small, ten_added, low_tables, high_tables, first_added, both_added, last_added.
use Rattle.std.specs.Prelude.{◌≡◌, Bool, List, [], ◌∷◌, ℕ, zero, suc, ◌+◌, ◌*◌, ◌-◌, ◌/◌, ◌%◌, ◌≤◌, ◌<◌, get_or, take}
use Rattle.std.proofs.Math.Path.{refl, fun_ext}
use Rattle.std.proofs.Common.{sym, ap, ◌∙◌, arith, lit≤, get_or-take}
use Rattle.std.proofs.Math.Bool.{true, false, cond}
use Rattle.std.proofs.Math.Dec.{ltb, eqb, lit<}
use borrow.Author.Tests.{ltb-true, lt-ltb, le-ltb, eqb-true, eq-eqb, ne_eqb}
use Rattle.algebra.specs.Field.{digits, add, times, power, risen, small, gamma}
use Rattle.algebra.specs.Lists.{table, table_same, all_at}
use Rattle.algebra.specs.Tests.{passed, one_to_five}
use Rattle.algebra.specs.Linear.{Linear, composed, computing}
use Rattle.algebra.specs.Digits.{add_assoc, add_comm, add_zero}
use Rattle.algebra.specs.Sums.{zero_plus, add_whole, add_rest}
use Rattle.algebra.specs.Products.{left, right, times_zero, zero_times, times_whole, add_times}
use Rattle.algebra.proofs.SmallField.{small_linear}
use Rattle.algebra.specs.Totals.{total}
use Rattle.rank.specs.Definitions.{at}
use Rattle.coding.specs.Code.{is_message, inner, inner_sum, value, word, word_from}
use Rattle.coding.specs.Spectrum.{delta, risen_z, risen_delta, spectrum}
use Rattle.transform.specs.Packed.{bounded, no_counts, add_rows, add_small_rows, add_small_none, small_as_rows, symbols_of}
use Rattle.transform.specs.Counts.{row, rows, coefficient_sums, counts_from, counts, computing_rows, mapped, counts_next, length_counts}

-- THE SPECTRUM
unfoldable pub spectrum_map : (s i x : ℕ) → ℕ
spectrum_map s i x = times x (risen_delta s i)

spectrum_linear : (s i : ℕ) → Linear (spectrum_map s i)
unfolding spectrum_map
spectrum_linear s i = left (risen_delta s i)

-- all that a computed test of it opens
unfoldable pub computing_spectrum : ℕ
unfolding computing_rows spectrum_map risen_delta delta at
computing_spectrum = 0

spectrum_fits : bounded 63 (coefficient_sums spectrum_map 6 0) ≡ true
unfolding computing_spectrum
spectrum_fits = refl

pub spectrum_mapped : (c : List ℕ) → symbols_of (counts spectrum_map c 6) ≡ table 6 (spectrum c)
unfolding spectrum spectrum_map at
spectrum_mapped c = mapped spectrum_map c spectrum_linear 6 spectrum_fits

-- THE NUMBERS of a message for k, in ten places: the low number of coefficient s stands at place 2s, the high one at place 2s - 1. The last
-- coefficient has a high number only, and none comes after it.
unfoldable pub low_at : (s k : ℕ) → (m : List ℕ) → ℕ
low_at s k m = cond (ltb s k) (get_or m (2 * s - 1) 0) 0

unfoldable pub high_at : (s k : ℕ) → (m : List ℕ) → ℕ
high_at s k m = cond (ltb s k) (get_or m (2 * s) 0) (cond (eqb s k) (get_or m (2 * s - 1) 0) 0)

unfoldable pub message_numbers : (k : ℕ) → (m : List ℕ) → List ℕ
message_numbers k m =
    get_or m 0 0 ∷ high_at 1 k m ∷ low_at 1 k m ∷ high_at 2 k m ∷ low_at 2 k m ∷ high_at 3 k m ∷ low_at 3 k m ∷ high_at 4 k m ∷ low_at 4 k m ∷ high_at 5 k m ∷ []

-- THE WORD: the number at place p is a part of coefficient (p + 1) / 2
unfoldable pub coefficient_part : (p x : ℕ) → ℕ
coefficient_part p x = cond (eqb (p % 2) 0) (small x) (times gamma (small x))

unfoldable pub word_map : (p j x : ℕ) → ℕ
word_map p j x = times (coefficient_part p x) (risen_z ((p + 1) / 2) j)

part_linear : (p : ℕ) → Linear (coefficient_part p)
unfolding coefficient_part
part_linear p = go (eqb (p % 2) 0)
  where
    go : (b : Bool) → Linear (λ x. cond b (small x) (times gamma (small x)))
    go true = small_linear
    go false = composed (right gamma) small_linear

word_linear : (p j : ℕ) → Linear (word_map p j)
unfolding word_map
word_linear p j = composed (left (risen_z ((p + 1) / 2) j)) (part_linear p)

-- all that a computed test of it opens
unfoldable pub computing_word : ℕ
unfolding computing_rows word_map coefficient_part risen_z power
computing_word = 0

word_fits : bounded 63 (coefficient_sums word_map 10 0) ≡ true
unfolding computing_word
word_fits = refl

small_none : small 0 ≡ 0
unfolding computing
small_none = refl

risen_none : (y : ℕ) → risen 0 y ≡ y
unfolding risen
risen_none y = refl

-- a coefficient's two parts, in the order of their places
inner_times : (n : List ℕ) (i v : ℕ) → times (inner n i) v ≡ add (times (times gamma (small (at n (2 * i)))) v) (times (small (at n (2 * i - 1))) v)
unfolding inner
inner_times n i v = add_times _ _ v ∙ add_comm _ _

ruleset coefficients = (add_assoc, add_zero, zero_plus, add_whole, add_rest, zero_times, times_zero, times_whole, risen_none, small_none, inner_times)

value_is : (k : ℕ) → 1 ≤ k → k ≤ 5 → (m n : List ℕ) → ((i : ℕ) → i < 2 * k → at n i ≡ get_or m i 0) → (y : ℕ)
    → total 10 0 (λ p. times (coefficient_part p (get_or (message_numbers k m) p 0)) (risen ((p + 1) / 2) y)) ≡ value k n y
unfolding value inner_sum total message_numbers low_at high_at coefficient_part
value_is = one_to_five _
    (λ m n h y. simp (coefficients, h 0 (lit< tt), h 1 (lit< tt)))
    (λ m n h y. simp (coefficients, h 0 (lit< tt), h 1 (lit< tt), h 2 (lit< tt), h 3 (lit< tt)))
    (λ m n h y. simp (coefficients, h 0 (lit< tt), h 1 (lit< tt), h 2 (lit< tt), h 3 (lit< tt), h 4 (lit< tt), h 5 (lit< tt)))
    (λ m n h y. simp (coefficients, h 0 (lit< tt), h 1 (lit< tt), h 2 (lit< tt), h 3 (lit< tt), h 4 (lit< tt), h 5 (lit< tt), h 6 (lit< tt), h 7 (lit< tt)))
    (λ m n h y. simp (coefficients, h 0 (lit< tt), h 1 (lit< tt), h 2 (lit< tt), h 3 (lit< tt), h 4 (lit< tt), h 5 (lit< tt), h 6 (lit< tt), h 7 (lit< tt), h 8 (lit< tt), h 9 (lit< tt)))

pub word_mapped : (k : ℕ) → 1 ≤ k → k ≤ 5 → (m : List ℕ) → symbols_of (counts word_map (message_numbers k m) 10) ≡ word k (take (2 * k) m)
unfolding word_map risen_z word word_from table at
word_mapped k p q m = mapped word_map (message_numbers k m) word_linear 10 word_fits
    ∙ table_same 6 _ _ (λ j h. value_is k p q m (take (2 * k) m) (λ i l. get_or-take (2 * k) m i 0 l) (power 3 j))

-- A SMALL NUMBER HAS THREE ROWS: its other three are zeros
no_part : (p e : ℕ) → small e ≡ 0 → coefficient_part p e ≡ 0
unfolding coefficient_part
no_part p e h = go (eqb (p % 2) 0)
  where
    go : (b : Bool) → cond b (small e) (times gamma (small e)) ≡ 0
    go true = h
    go false = ap (times gamma) h ∙ times_zero gamma

none_row : row (λ j. 0) ≡ no_counts
unfolding computing_word
none_row = refl

no_row : (p e : ℕ) → small e ≡ 0 → row (λ j. word_map p j e) ≡ no_counts
unfolding word_map
no_row p e h = ap row (fun_ext (λ j. ap (λ (x : ℕ). times x (risen_z ((p + 1) / 2) j)) (no_part p e h) ∙ zero_times _)) ∙ none_row

upper_none : (small 27 ≡ 0) × (small 81 ≡ 0) × (small 243 ≡ 0)
unfolding computing
upper_none = (refl, refl, refl)

small_step : (p : ℕ) (a : List ℕ) (x : ℕ) → x < 27 → add_small_rows a x (take 3 (rows (word_map p))) ≡ add_rows a (digits x) (rows (word_map p))
unfolding rows
small_step p a x h = rw (no_row p 27 upper_none.0, no_row p 81 upper_none.1, no_row p 243 upper_none.2) (small_as_rows a x _ _ _ h)

-- THE NUMBERS OF A MESSAGE are small
abbrev pub SmallNumbers : (k : ℕ) → (m : List ℕ) → Type 0
SmallNumbers k m = (i : ℕ) → i < 2 * k → get_or m i 0 < 27

pub message_small : (k : ℕ) (m : List ℕ) → is_message k (take (2 * k) m) ≡ true → SmallNumbers k m
unfolding is_message
message_small k m u i h =
    let (l, b) = passed (2 * k) 26 (take (2 * k) m) u in
    rw (get_or-take (2 * k) m i 0 h) at (all_at (λ v. v < 27) 0 (take (2 * k) m) b i (omega (arith, l)))

-- THE TABLES of the word: the rows of the low number of each coefficient but the last, and of the high number of each but the first
abbrev pub part_rows : (p : ℕ) → List (List ℕ)
part_rows p = take 3 (rows (word_map p))

abbrev pub low_tables : List (List (List ℕ))
low_tables = part_rows 0 ∷ part_rows 2 ∷ part_rows 4 ∷ part_rows 6 ∷ part_rows 8 ∷ []

abbrev pub high_tables : List (List (List ℕ))
high_tables = part_rows 1 ∷ part_rows 3 ∷ part_rows 5 ∷ part_rows 7 ∷ part_rows 9 ∷ []

low_table : (s : ℕ) → 1 ≤ s → s ≤ 5 → s < 5 → get_or low_tables s [] ≡ part_rows (2 * s)
low_table = one_to_five _ (λ h. refl) (λ h. refl) (λ h. refl) (λ h. refl) (λ h. absurd (omega arith))

high_table : (s : ℕ) → 1 ≤ s → s ≤ 5 → get_or high_tables (s - 1) [] ≡ part_rows (2 * s - 1)
high_table = one_to_five _ refl refl refl refl refl

-- the numbers of the coefficients are small too: what is not there is 0
module _ (k : ℕ) (m : List ℕ) (u : SmallNumbers k m) where
  low_small : (s : ℕ) → 1 ≤ s → low_at s k m < 27
  unfolding low_at
  low_small s h = go (ltb s k) refl
    where
      go : (b : Bool) → ltb s k ≡ b → cond b (get_or m (2 * s - 1) 0) 0 < 27
      go true e = u (2 * s - 1) (omega (arith, ltb-true s k e))
      go false e = lit< tt

  pub high_small : (s : ℕ) → 1 ≤ s → high_at s k m < 27
  unfolding high_at
  high_small s h = go (ltb s k) refl (eqb s k) refl
    where
      go : (b : Bool) → ltb s k ≡ b → (t : Bool) → eqb s k ≡ t → cond b (get_or m (2 * s) 0) (cond t (get_or m (2 * s - 1) 0) 0) < 27
      go true e t f = u (2 * s) (omega (arith, ltb-true s k e))
      go false e true f = u (2 * s - 1) (omega (arith, eqb-true s k f))
      go false e false f = lit< tt

  -- ten of them, one after another
  pub ten_added : 1 ≤ k → {a b c d e f g h i j : List ℕ}
      → a ≡ add_small_rows no_counts (get_or m 0 0) (part_rows 0) → b ≡ add_small_rows a (high_at 1 k m) (part_rows 1)
      → c ≡ add_small_rows b (low_at 1 k m) (part_rows 2) → d ≡ add_small_rows c (high_at 2 k m) (part_rows 3)
      → e ≡ add_small_rows d (low_at 2 k m) (part_rows 4) → f ≡ add_small_rows e (high_at 3 k m) (part_rows 5)
      → g ≡ add_small_rows f (low_at 3 k m) (part_rows 6) → h ≡ add_small_rows g (high_at 4 k m) (part_rows 7)
      → i ≡ add_small_rows h (low_at 4 k m) (part_rows 8) → j ≡ add_small_rows i (high_at 5 k m) (part_rows 9)
      → j ≡ counts word_map (message_numbers k m) 10
  unfolding counts counts_from message_numbers
  ten_added p ea eb ec ed ee ef eg eh ei ej =
      rw (
        ej,
        small_step 9 _ _ (high_small 5 (lit≤ tt)),
        ei,
        small_step 8 _ _ (low_small 4 (lit≤ tt)),
        eh,
        small_step 7 _ _ (high_small 4 (lit≤ tt)),
        eg,
        small_step 6 _ _ (low_small 3 (lit≤ tt)),
        ef,
        small_step 5 _ _ (high_small 3 (lit≤ tt)),
        ee,
        small_step 4 _ _ (low_small 2 (lit≤ tt)),
        ed,
        small_step 3 _ _ (high_small 2 (lit≤ tt)),
        ec,
        small_step 2 _ _ (low_small 1 (lit≤ tt)),
        eb,
        small_step 1 _ _ (high_small 1 (lit≤ tt)),
        ea,
        small_step 0 _ _ (u 0 (omega arith)),
      )

-- THE NUMBERS ONE AFTER ANOTHER, up to number n of the ten
module _ (k : ℕ) (m : List ℕ) where
  abbrev pub upto : (n : ℕ) → List ℕ
  upto n = counts word_map (message_numbers k m) n

  one_more : (n x : ℕ) → x < 27 → x ≡ get_or (message_numbers k m) n 0 → add_small_rows (upto n) x (part_rows n) ≡ upto (suc n)
  one_more n x h e = small_step n (upto n) x h ∙ rw e (sym (counts_next word_map (message_numbers k m) n))

  none_more : (n : ℕ) → get_or (message_numbers k m) n 0 ≡ 0 → upto (suc n) ≡ upto n
  none_more n e =
      sym (one_more n 0 (lit< tt) (sym e)) ∙ add_small_none (upto n) (part_rows n) (length_counts word_map (message_numbers k m) n)

  low_place : (s : ℕ) → 1 ≤ s → s ≤ 5 → s < 5 → get_or (message_numbers k m) (2 * s) 0 ≡ low_at s k m
  unfolding message_numbers
  low_place = one_to_five _ (λ h. refl) (λ h. refl) (λ h. refl) (λ h. refl) (λ h. absurd (omega arith))

  high_place : (s : ℕ) → 1 ≤ s → s ≤ 5 → get_or (message_numbers k m) (2 * s - 1) 0 ≡ high_at s k m
  unfolding message_numbers
  high_place = one_to_five _ refl refl refl refl refl

  -- from the last coefficient's number on there is none
  rest_none : (d s : ℕ) → s + d ≡ 5 → 1 ≤ s → k ≤ s → upto 10 ≡ upto (2 * s)
  unfolding low_at high_at
  rest_none zero s e h l = let five : 10 ≡ 2 * s = omega arith in ap upto five
  rest_none (suc d) s e h l =
      let low : get_or (message_numbers k m) (2 * s) 0 ≡ 0 = low_place s h (omega arith) (omega arith) ∙ rw (le-ltb s k l) in
      let place : suc (2 * s) ≡ 2 * suc s - 1 = omega arith in
      let next : 2 * suc s ≡ suc (suc (2 * s)) = omega arith in
      let high : get_or (message_numbers k m) (suc (2 * s)) 0 ≡ 0 =
      ap (λ (t : ℕ). get_or (message_numbers k m) t 0) place ∙ high_place (suc s) (omega arith) (omega arith)
      ∙ rw (le-ltb (suc s) k (omega arith), ne_eqb (suc s) k (λ z. omega arith)) in
      rest_none d (suc s) (omega arith) (omega arith) (omega arith) ∙ ap upto next ∙ none_more (suc (2 * s)) high ∙ none_more (2 * s) low

  -- by the tables, what the code adds before, at and after each turn of its loop
  module _ (u : SmallNumbers k m) (low : 1 ≤ k) (high : k ≤ 5) (lows highs : List (List (List ℕ))) (el : lows ≡ low_tables) (eh : highs ≡ high_tables) where
    pub first_added : {a b : List ℕ} → a ≡ no_counts → b ≡ add_small_rows a (get_or m 0 0) (get_or lows 0 []) → b ≡ upto 1
    unfolding message_numbers counts counts_from
    first_added ea eb = rw (eb, ea, el) (one_more 0 (get_or m 0 0) (u 0 (omega arith)) refl)

    -- a coefficient before the last: its high number, and then its low one
    pub both_added : {a b c : List ℕ} → (s : ℕ) → 1 ≤ s → s < k → a ≡ upto (2 * s - 1)
        → b ≡ add_small_rows a (get_or m (2 * s) 0) (get_or highs (s - 1) []) → c ≡ add_small_rows b (get_or m (2 * s - 1) 0) (get_or lows s [])
        → c ≡ upto (2 * (s + 1) - 1)
    unfolding low_at high_at
    both_added s h l ea eb ec =
        let next : suc (2 * s - 1) ≡ 2 * s = omega arith in
        let last : suc (2 * s) ≡ 2 * (s + 1) - 1 = omega arith in
        let first : add_small_rows (upto (2 * s - 1)) (get_or m (2 * s) 0) (part_rows (2 * s - 1)) ≡ upto (2 * s)
        = one_more (2 * s - 1) (get_or m (2 * s) 0) (u (2 * s) (omega arith)) (sym (high_place s h (omega arith) ∙ rw (lt-ltb s k l))) ∙ ap upto next in
        rw (ec, eb, ea, el, eh, high_table s h (omega arith), low_table s h (omega arith) (omega arith), first)
        (one_more (2 * s) (get_or m (2 * s - 1) 0) (u (2 * s - 1) (omega arith)) (sym (low_place s h (omega arith) (omega arith) ∙ rw (lt-ltb s k l))) ∙ ap upto last)

    -- the last coefficient's one number, and none after it
    pub last_added : {a b : List ℕ} → (s : ℕ) → s ≡ k → a ≡ upto (2 * s - 1) → b ≡ add_small_rows a (get_or m (2 * k - 1) 0) (get_or highs (k - 1) []) → b ≡ upto 10
    unfolding high_at
    last_added s e ea eb =
        let next : suc (2 * k - 1) ≡ 2 * k = omega arith in
        rw (eb, ea, e, eh, high_table k low high)
        (one_more (2 * k - 1) (get_or m (2 * k - 1) 0) (u (2 * k - 1) (omega arith)) (sym (high_place k low high ∙ rw (le-ltb k k (omega arith), eq-eqb k k refl)))
        ∙ ap upto next ∙ sym (rest_none (5 - k) k (omega arith) low (omega arith)))
