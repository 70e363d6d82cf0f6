-- Symbols and signed numbers: both ways undo each other, and the field's negative of a symbol is the negated number. These are computed tests of
-- all 729 symbols, or of all 729 numbers, those from 0 on and those below.
-- Main: symbol_signed, signed_symbol, signed_inside, signed_negative, examples; of lists levels_back, levels_inside, symbols_back, symbols_card.
use Rattle.std.specs.Prelude.{◌≡◌, refl, Bool, true, false, not, List, [], ◌∷◌, map, ℕ, ◌%◌, ◌≤◌, ◌<◌, eqb, ltb, length, ℤ, pos, negsuc, neg_ℤ, ◌+ℤ◌, nat_abs}
use Rattle.std.proofs.Common.{sym, ap, ◌∙◌, true≢false, mod-lt, arith, lit<, eqb-true, ltb-false}
use Rattle.std.proofs.lemmas.List.{length-map}
use Rattle.std.proofs.lemmas.Bool.{not-true}
use Rattle.algebra.specs.Field.{minus}
use Rattle.algebra.specs.Lists.{cons, All, all, over}
use Rattle.algebra.specs.Tests.{neither, every, every_at, tested, any, any_none, passed, passes}
use Rattle.algebra.specs.Digits.{digits_rest, add_below}
use Rattle.algebra.specs.Sums.{minus_rest}
use Rattle.algebra.specs.Linear.{computing}
use Rattle.rank.specs.Definitions.{is_card}
use Rattle.levels.specs.Levels.{level, signed_from, signed_of, outside, symbol_of}

-- whether two signed numbers are equal
unfoldable equal : ℤ → ℤ → Bool
equal (pos a) (pos b) = eqb a b
equal (pos a) (negsuc b) = false
equal (negsuc a) (pos b) = false
equal (negsuc a) (negsuc b) = eqb a b

equal_true : (m n : ℤ) → equal m n ≡ true → m ≡ n
unfolding equal
equal_true (pos a) (pos b) e = ap pos (eqb-true a b e)
equal_true (pos a) (negsuc b) e = absurd (true≢false (sym e))
equal_true (negsuc a) (pos b) e = absurd (true≢false (sym e))
equal_true (negsuc a) (negsuc b) e = ap negsuc (eqb-true a b e)

-- a number stands for its remainder
signed_rest : (v : ℕ) → signed_of (v % 729) ≡ signed_of v
unfolding signed_of
signed_rest v = ap (signed_from 0) (digits_rest v)

-- DOCUMENT 02: 0 is 0, 2 is -1, 364 is 364, 728 is -364
pub examples : map signed_of (0 ∷ 2 ∷ 364 ∷ 728 ∷ []) ≡ pos 0 ∷ negsuc 0 ∷ pos 364 ∷ negsuc 363 ∷ []
unfolding computing level signed_from signed_of
examples = refl

-- A SYMBOL, its number, and the symbol again
back_test : every 729 (λ v. eqb (symbol_of (signed_of v)) v) ≡ true
unfolding computing level signed_from signed_of symbol_of
back_test = refl

pub symbol_signed : (v : ℕ) → v ≤ 728 → symbol_of (signed_of v) ≡ v
symbol_signed v h = tested 729 (λ w. symbol_of (signed_of w)) (λ w. w) back_test v (omega arith)

-- the number is in its range
inside_test : every 729 (λ v. not (outside (signed_of v))) ≡ true
unfolding computing level signed_from signed_of outside
inside_test = refl

pub signed_inside : (v : ℕ) → outside (signed_of v) ≡ false
signed_inside v =
    ap outside (sym (signed_rest v)) ∙ not-true _ (every_at 729 (λ w. not (outside (signed_of w))) inside_test (v % 729) (mod-lt v (lit< tt)))

-- A NUMBER, its symbol, and the number again
forth_test : every 365 (λ a. equal (signed_of (symbol_of (pos a))) (pos a)) ≡ true
unfolding computing level signed_from signed_of symbol_of equal
forth_test = refl

forth_test_minus : every 364 (λ a. equal (signed_of (symbol_of (negsuc a))) (negsuc a)) ≡ true
unfolding computing level signed_from signed_of symbol_of equal
forth_test_minus = refl

pub signed_symbol : (n : ℤ) → outside n ≡ false → signed_of (symbol_of n) ≡ n
unfolding outside
signed_symbol (pos a) e =
    equal_true _ _ (every_at 365 (λ b. equal (signed_of (symbol_of (pos b))) (pos b)) forth_test a (omega (arith, ltb-false 364 a e)))
signed_symbol (negsuc a) e =
    let t = neither (ltb 363 a) false e in
    equal_true _ _ (every_at 364 (λ b. equal (signed_of (symbol_of (negsuc b))) (negsuc b)) forth_test_minus a (omega (arith, ltb-false 363 a t.0)))

pub symbol_range : (n : ℤ) → symbol_of n < 729
unfolding symbol_of
symbol_range n = add_below (nat_abs (n +ℤ pos 364)) 728

-- THE NEGATIVE of a symbol in the field
negative_test : every 729 (λ v. equal (signed_of (minus 0 v)) (neg_ℤ (signed_of v))) ≡ true
unfolding computing minus level signed_from signed_of equal
negative_test = refl

pub signed_negative : (v : ℕ) → signed_of (minus 0 v) ≡ neg_ℤ (signed_of v)
signed_negative v =
    ap signed_of (sym (minus_rest 0 v))
    ∙ equal_true _ _ (every_at 729 (λ w. equal (signed_of (minus 0 w)) (neg_ℤ (signed_of w))) negative_test (v % 729) (mod-lt v (lit< tt)))
    ∙ ap neg_ℤ (signed_rest v)

-- A CARD, its signed numbers, and the card again: they are in their range, so that they are taken back
pub levels_back : (c : List ℕ) → is_card c ≡ true → map symbol_of (map signed_of c) ≡ c
unfolding is_card
levels_back c card = go c (passed 6 728 c card).1
  where
    go : (c : List ℕ) → All (λ x. x < 729) c → map symbol_of (map signed_of c) ≡ c
    go [] h = refl
    go (x ∷ c) h = cons (symbol_signed x (omega (arith, h.0))) (go c h.1)

pub levels_inside : (c : List ℕ) → any outside (map signed_of c) ≡ false
levels_inside [] = refl
levels_inside (x ∷ c) = rw (signed_inside x) (levels_inside c)

-- SIX NUMBERS, their symbols, which are a card, and the numbers again
pub symbols_back : (ns : List ℤ) → any outside ns ≡ false → map signed_of (map symbol_of ns) ≡ ns
symbols_back ns e = go ns (any_none outside ns e)
  where
    go : (ns : List ℤ) → All (λ n. outside n ≡ false) ns → map signed_of (map symbol_of ns) ≡ ns
    go [] h = refl
    go (n ∷ ns) h = cons (signed_symbol n h.0) (go ns h.1)

pub symbols_card : (ns : List ℤ) → length ns ≡ 6 → is_card (map symbol_of ns) ≡ true
unfolding is_card
symbols_card ns e = passes 6 728 (map symbol_of ns) (length-map ns symbol_of ∙ e) (over (λ x. x < 729) symbol_of ns (all symbol_range ns))
