-- What a line says, found word by word.
-- Main: tune_more, strike_second, strike_third, strike_more, says_comment, says_tune, says_other.
use Rattle.std.specs.Prelude.{◌≡◌, Bool, true, false, cond, ◌&&◌, ℕ, eqb, length, get_or}
use Rattle.std.specs.List.{starts_with}
use lib.Pointwise.{pointwise}
use Rattle.std.proofs.Math.Path.{refl}
use Rattle.std.proofs.Common.{ap, sym, ◌∙◌, true≢false}
use Rattle.std.proofs.Math.Bool.{and-false}
use mathlib.Core.List.{List, [], ◌∷◌}
use Rattle.std.proofs.Math.Decide.{ℕ_discrete}
use borrow.Author.Tests.{eq-eqb, ne_eqb}
use Rattle.text.specs.Text.{ascii}
use Rattle.tune_text.specs.declared.lines.Fault.TheVariants.{TuneNumber, Unknown}
use Rattle.tune_text.specs.declared.lines.Line.TheVariants.{Nothing, Tune, Strike, Wrong}
use Rattle.tune_text.specs.Words.{words, is_number, value, same}
use Rattle.tune_text.specs.Saying.{tune_said, three_numbers, strike_said, words_say, line_of}
use Rattle.tune_text.specs.Pieces.{first_word, after_word}
use Rattle.tune_text.proofs.PieceLaws.{words_none, words_some}
use Rattle.tune_text.specs.Numbers.{number_none}

-- A LINE WHOSE FIRST WORD IS A NUMBER has that word
pub number_first : (l : List ℕ) → is_number (first_word l) ≡ true → words l ≡ first_word l ∷ words (after_word l)
number_first l e = words_some l (λ z. true≢false (sym e ∙ number_none (first_word l) z))

-- what holds of no words, and of the first word and those after it
by_first : (P : List (List ℕ) → Type 0) (l : List ℕ) → P [] → P (first_word l ∷ words (after_word l)) → P (words l)
by_first P l n s = elim (ℕ_discrete (length (first_word l)) 0) [ yes z ↦ rw (words_none l z) n | no m ↦ rw (words_some l m) s ]

-- AFTER THE WORD tune
module _ (l : List ℕ) where
  pub tune_not : is_number (first_word l) ≡ false → tune_said (words l) ≡ Wrong TuneNumber
  unfolding tune_said
  tune_not e = by_first (λ ws. tune_said ws ≡ Wrong TuneNumber) l refl (go (words (after_word l)))
    where
      go : (ws : List (List ℕ)) → tune_said (first_word l ∷ ws) ≡ Wrong TuneNumber
      go [] = rw e
      go (m ∷ ws) = refl

  pub tune_more : is_number (first_word l) ≡ true → (length (first_word (after_word l)) ≡ 0 → ⊥) → tune_said (words l) ≡ Wrong TuneNumber
  unfolding tune_said
  tune_more e m = rw (number_first l e, words_some (after_word l) m)

  pub tune_one : is_number (first_word l) ≡ true → length (first_word (after_word l)) ≡ 0 → tune_said (words l) ≡ Tune (value (first_word l))
  unfolding tune_said
  tune_one e z = rw (number_first l e, words_none (after_word l) z, e)

-- THREE NUMBERS: where the first, second or third is none, there is a fault whatever follows
said_second : (a b : List ℕ) (ws : List (List ℕ)) → is_number b ≡ false → strike_said (a ∷ b ∷ ws) ≡ Wrong Unknown
unfolding strike_said
said_second a b [] e = refl
said_second a b (c ∷ []) e = rw (e, and-false (is_number a))
said_second a b (c ∷ d ∷ ws) e = refl

said_third : (a b c : List ℕ) (ws : List (List ℕ)) → is_number c ≡ false → strike_said (a ∷ b ∷ c ∷ ws) ≡ Wrong Unknown
unfolding strike_said
said_third a b c [] e = rw (e, and-false (is_number b), and-false (is_number a))
said_third a b c (d ∷ ws) e = refl

said_first : (a : List ℕ) (ws : List (List ℕ)) → is_number a ≡ false → strike_said (a ∷ ws) ≡ Wrong Unknown
unfolding strike_said
said_first a [] e = refl
said_first a (b ∷ []) e = refl
said_first a (b ∷ c ∷ []) e = rw e
said_first a (b ∷ c ∷ d ∷ ws) e = refl

-- of the words of a line, the second and the third by what they follow
module _ (l : List ℕ) where
  pub strike_first : is_number (first_word l) ≡ false → strike_said (words l) ≡ Wrong Unknown
  unfolding strike_said
  strike_first e = by_first (λ ws. strike_said ws ≡ Wrong Unknown) l refl (said_first (first_word l) (words (after_word l)) e)

  module _ (p : is_number (first_word l) ≡ true) where
    pub strike_second : is_number (first_word (after_word l)) ≡ false → strike_said (words l) ≡ Wrong Unknown
    unfolding strike_said
    strike_second e =
        let m = after_word l in
        rw (number_first l p)
        (by_first (λ ws. strike_said (first_word l ∷ ws) ≡ Wrong Unknown) m refl (said_second (first_word l) (first_word m) (words (after_word m)) e))

    module _ (q : is_number (first_word (after_word l)) ≡ true) where
      pub strike_third : is_number (first_word (after_word (after_word l))) ≡ false → strike_said (words l) ≡ Wrong Unknown
      unfolding strike_said
      strike_third e =
          let m = after_word l in
          let n = after_word m in
          rw (number_first l p, number_first m q)
          (by_first (λ ws. strike_said (first_word l ∷ first_word m ∷ ws) ≡ Wrong Unknown) n refl
          (said_third (first_word l) (first_word m) (first_word n) (words (after_word n)) e))

      module _ (r : is_number (first_word (after_word (after_word l))) ≡ true) where
        pub strike_more : (length (first_word (after_word (after_word (after_word l)))) ≡ 0 → ⊥) → strike_said (words l) ≡ Wrong Unknown
        unfolding strike_said
        strike_more m =
            let n = after_word (after_word l) in
            rw (number_first l p, number_first (after_word l) q, number_first n r, words_some (after_word n) m)

        pub strike_three : length (first_word (after_word (after_word (after_word l)))) ≡ 0
            → strike_said (words l) ≡ Strike (three_numbers (first_word l) (first_word (after_word l)) (first_word (after_word (after_word l))))
        unfolding strike_said
        strike_three z =
            let n = after_word (after_word l) in
            rw (number_first l p, number_first (after_word l) q, number_first n r, words_none (after_word n) z, p, q, r)

-- THE WHOLE LINE
module _ (l : List ℕ) where
  pub says_none : length (first_word l) ≡ 0 → line_of l ≡ Nothing
  unfolding line_of words_say
  says_none z = rw (words_none l z)

  module _ (s : length (first_word l) ≡ 0 → ⊥) where
    pub says_comment : get_or (first_word l) 0 0 ≡ 35 → line_of l ≡ Nothing
    unfolding line_of words_say
    says_comment e = rw (words_some l s, eq-eqb (get_or (first_word l) 0 0) 35 e)

    module _ (n : get_or (first_word l) 0 0 ≡ 35 → ⊥) where
      pub says_tune : same (first_word l) (ascii "tune") ≡ true → line_of l ≡ tune_said (words (after_word l))
      unfolding line_of words_say
      says_tune e = rw (words_some l s, ne_eqb (get_or (first_word l) 0 0) 35 n, e)

      pub says_other : same (first_word l) (ascii "tune") ≡ false → line_of l ≡ strike_said (words l)
      unfolding line_of words_say
      says_other e = rw (words_some l s, ne_eqb (get_or (first_word l) 0 0) 35 n, e)

-- by what the code tests of the first word
same_pointwise : (a b : List ℕ) → same a b ≡ pointwise eqb a b
unfolding same
same_pointwise [] [] = refl
same_pointwise [] (y ∷ b) = refl
same_pointwise (x ∷ a) [] = refl
same_pointwise (x ∷ a) (y ∷ b) = ap (λ (t : Bool). eqb x y && t) (same_pointwise a b)

first_hash : (w : List ℕ) → eqb (get_or w 0 0) 35 ≡ starts_with eqb w (35 ∷ [])
first_hash [] = refl
first_hash (b ∷ w) = elim (ℕ_discrete b 35) [
  | yes e ↦ rw (eq-eqb b 35 e, eq-eqb 35 b (sym e))
  | no n ↦ rw (ne_eqb b 35 n, ne_eqb 35 b (λ e. n (sym e)))
]

pub says_first : (l w : List ℕ) (ws : List (List ℕ)) → words l ≡ w ∷ ws → line_of l ≡
    cond (starts_with eqb w (35 ∷ [])) Nothing (cond (pointwise eqb w (ascii "tune")) (tune_said ws) (strike_said (w ∷ ws)))
unfolding line_of words_say
says_first l w ws e = rw (e, first_hash w, same_pointwise w (ascii "tune"))

pub says_nothing : (l : List ℕ) → words l ≡ [] → line_of l ≡ Nothing
unfolding line_of words_say
says_nothing l e = rw e
