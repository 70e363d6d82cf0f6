-- The thirteen cases that are to be theorems (SPECIFICATION 12): the rows of one table, and its truth against the definitions.
-- Main: cases, cases_hold.
use Rattle.std.specs.Prelude.{◌≡◌, refl, true, List, [], ◌∷◌, map, ℕ, ◌+◌, ◌*◌, ◌≤◌, ◌<◌}
use Rattle.std.proofs.Common.{◌∙◌, lit≤, lit<}
use Rattle.algebra.specs.Field.{power, cube, small}
use Rattle.algebra.specs.Lists.{All}
use Rattle.algebra.specs.Tests.{any_above}
use Rattle.algebra.specs.Linear.{computing}
use Rattle.rank.specs.Definitions.{at, is_card, columns, subtract, pivot, cleared, rank_with, rank_from, rank, apart}
use Rattle.coding.specs.Code.{inner, inner_sum, value, word_from, word, radius}
use Rattle.coding.specs.LowRank.{zero_word, word_zero, zero_apart, low_rank_zero, low_rank_none}
use Rattle.codec.specs.Operations.{k_bad, tests}
use Rattle.decoder.specs.Filling.{undecodable, or_empty, or_undecodable}
use Rattle.decoder.specs.Decoding.{lengths_bad, decode_tests, decode_refusal, decoded_word}

-- A CASE: symbol 3 to some powers; a cube; small numbers as symbols; a message and its word; a card and the word and rank it is decoded to;
-- a card that decoding refuses by a number
pub data Case : Type 0 where
  powers : (exponents symbols : List ℕ) → Case
  cubes : (symbol its-cube : ℕ) → Case
  smalls : (numbers symbols : List ℕ) → Case
  encodes : (k : ℕ) → (message its-word : List ℕ) → Case
  decodes : (k : ℕ) → (card its-word : List ℕ) → (distance : ℕ) → Case
  refuses : (k : ℕ) → (card : List ℕ) → (refusal : ℕ) → Case

-- its truth
abbrev pub Holds : Case → Type 0
Holds (powers ns vs) = map (power 3) ns ≡ vs
Holds (cubes a b) = cube a ≡ b
Holds (smalls ns vs) = map small ns ≡ vs
Holds (encodes k m w) = word k m ≡ w
Holds (decodes k c w d) = (decode_refusal k c 6 (2 * k) ≡ 0) × (decoded_word k c ≡ w) × (apart (decoded_word k c) c ≡ d)
Holds (refuses k c n) = decode_refusal k c 6 (2 * k) ≡ n

abbrev pub cases : List Case
cases =
    powers (6 ∷ 8 ∷ 28 ∷ []) (103 ∷ 31 ∷ 650 ∷ [])
    ∷ cubes 650 649
    ∷ smalls (1 ∷ 3 ∷ 9 ∷ []) (1 ∷ 650 ∷ 137 ∷ [])
    ∷ encodes 1 (1 ∷ 0 ∷ []) (1 ∷ 3 ∷ 9 ∷ 27 ∷ 81 ∷ 243 ∷ [])
    ∷ encodes 1 (0 ∷ 1 ∷ []) (3 ∷ 81 ∷ 309 ∷ 279 ∷ 377 ∷ 56 ∷ [])
    ∷ encodes 2 (0 ∷ 1 ∷ 0 ∷ 0 ∷ []) (1 ∷ 27 ∷ 103 ∷ 93 ∷ 633 ∷ 538 ∷ [])
    ∷ encodes 2 (0 ∷ 0 ∷ 0 ∷ 1 ∷ []) (3 ∷ 279 ∷ 233 ∷ 650 ∷ 423 ∷ 163 ∷ [])
    ∷ refuses 1 (1 ∷ 3 ∷ 9 ∷ 0 ∷ 0 ∷ 0 ∷ []) 4
    ∷ decodes 2 (1 ∷ 3 ∷ 0 ∷ 0 ∷ 0 ∷ 0 ∷ []) (0 ∷ 0 ∷ 0 ∷ 0 ∷ 0 ∷ 0 ∷ []) 2
    ∷ refuses 3 (1 ∷ 3 ∷ 0 ∷ 0 ∷ 0 ∷ 0 ∷ []) 4
    ∷ decodes 3 (1 ∷ 0 ∷ 0 ∷ 0 ∷ 0 ∷ 0 ∷ []) (0 ∷ 0 ∷ 0 ∷ 0 ∷ 0 ∷ 0 ∷ []) 1
    ∷ decodes 4 (1 ∷ 1 ∷ 1 ∷ 1 ∷ 1 ∷ 1 ∷ []) (0 ∷ 0 ∷ 0 ∷ 0 ∷ 0 ∷ 0 ∷ []) 1
    ∷ refuses 5 (1 ∷ 0 ∷ 0 ∷ 0 ∷ 0 ∷ 0 ∷ []) 4
    ∷ []

-- THE CARDS are all of low rank
module _ (k : ℕ) (p : 1 ≤ k) (q : k ≤ 5) (c : List ℕ) (card : is_card c ≡ true) (tests : decode_tests k c 6 (2 * k) ≡ 0) (r : ℕ) (ranked : rank c ≡ r) where
  to_zero : r ≤ radius k → Holds (decodes k c zero_word r)
  unfolding decode_refusal or_undecodable decoded_word undecodable or_empty
  to_zero l =
      let e = low_rank_zero k p q c card (rw ranked l) in
      (rw (tests, e), rw e (word_zero k p q), rw e (zero_apart k p q c card ∙ ranked))

  to_none : r + radius k + k < 7 → radius k < r → Holds (refuses k c 4)
  unfolding decode_refusal or_undecodable undecodable
  to_none l f = rw (tests, low_rank_none k p q c card (rw ranked l) (rw ranked f))

pub cases_hold : All Holds cases
unfolding computing power word word_from value inner_sum inner at radius zero_word is_card any_above decode_tests lengths_bad tests k_bad columns subtract pivot cleared rank_with rank_from rank
cases_hold = (
  refl,
  (
    refl,
    (
      refl,
      (
        refl,
        (
          refl,
          (
            refl,
            (
              refl,
              (
                to_none 1 (lit≤ tt) (lit≤ tt) _ refl refl 3 refl (lit< tt) (lit< tt),
                (
                  to_zero 2 (lit≤ tt) (lit≤ tt) _ refl refl 2 refl (lit≤ tt),
                  (
                    to_none 3 (lit≤ tt) (lit≤ tt) _ refl refl 2 refl (lit< tt) (lit< tt),
                    (
                      to_zero 3 (lit≤ tt) (lit≤ tt) _ refl refl 1 refl (lit≤ tt),
                      (
                        to_zero 4 (lit≤ tt) (lit≤ tt) _ refl refl 1 refl (lit≤ tt),
                        (to_none 5 (lit≤ tt) (lit≤ tt) _ refl refl 1 refl (lit< tt) (lit< tt), tt),
                      ),
                    ),
                  ),
                ),
              ),
            ),
          ),
        ),
      ),
    ),
  ),
)
