-- Pieces one by one: where the first ends, and the pieces of the rest; and words, which are pieces that are not empty.
-- Main: ends_next, ends_here, ends_none, ends_within, trimmed_next, trimmed_here, words_none, words_some.
use Rattle.std.specs.Prelude.{◌≡◌, refl, Bool, true, false, cond, ℕ, suc, ◌+◌, ◌-◌, ◌≤◌, ◌<◌, drop, get_or, not, ltb, Option, Some, None, unwrap_or}
use Rattle.std.specs.List.{position_from, position_or_len}
use Rattle.std.proofs.lemmas.Iterator.Adapters.{position_from-zero}
use Rattle.std.proofs.Math.Path.{sym}
use Rattle.std.proofs.Common.{ap, ◌∙◌, arith, drop_of_length-le, length-drop, drop-cons, take_all}
use mathlib.Core.List.{List, [], ◌∷◌}
use Rattle.std.proofs.Math.Numerals.{add-one}
use Rattle.std.proofs.Math.ListN.{length, take}
use Rattle.tune_text.specs.Words.{onto, pieces, blank, not_empty, words}
use Rattle.tune_text.specs.Pieces.{ends_at, trimmed, first_word, after_word}

-- a loop that looks for it has not found it in the first i bytes
module _ (e : ℕ → Bool) (l : List ℕ) (i : ℕ) where
  pub ends_here : i < length l → e (get_or l i 0) ≡ true → i + ends_at e (drop i l) ≡ i
  unfolding ends_at
  ends_here h t = rw (drop-cons l i 0 h, t) (omega arith)

  pub ends_next : i < length l → e (get_or l i 0) ≡ false → i + ends_at e (drop i l) ≡ i + 1 + ends_at e (drop (i + 1) l)
  unfolding ends_at
  ends_next h t = rw (drop-cons l i 0 h, t, add-one i) (omega arith)

  pub ends_none : length l ≤ i → i + ends_at e (drop i l) ≡ i
  unfolding ends_at
  ends_none h = rw (drop_of_length-le l h) (omega arith)

pub ends_within : (e : ℕ → Bool) (l : List ℕ) → ends_at e l ≤ length l
unfolding ends_at
ends_within e [] = omega arith
ends_within e (b ∷ l) = go (e b) (ends_within e l)
  where
    go : (t : Bool) → ends_at e l ≤ length l → cond t 0 (suc (ends_at e l)) ≤ suc (length l)
    go true h = omega arith
    go false h = omega arith

-- a search for it from the place i on, in what is left, finds it or comes to the end
ends_from : (e : ℕ → Bool) (i : ℕ) (l : List ℕ) → unwrap_or (position_from e i l) (i + length l) ≡ i + ends_at e l
unfolding ends_at
ends_from e i [] = refl
ends_from e i (b ∷ l) = go (e b) (ends_from e (i + 1) l)
  where
    go : (t : Bool) → unwrap_or (position_from e (i + 1) l) (i + 1 + length l) ≡ i + 1 + ends_at e l
        → unwrap_or (cond t (Some i) (position_from e (i + 1) l)) (i + suc (length l)) ≡ i + cond t 0 (suc (ends_at e l))
    go true h = omega arith
    go false h = let s : i + suc (length l) ≡ i + 1 + length l = omega arith in rw s (h ∙ omega arith)

-- what `position` answers
pub ends_found : (e : ℕ → Bool) (l : List ℕ) (r : Option ℕ)
    → r ≡ cond (ltb (position_or_len e l) (length l)) (Some (position_or_len e l)) None → unwrap_or r (length l) ≡ ends_at e l
ends_found e l r h =
    let z : 0 + length l ≡ length l = omega arith in
    let n : 0 + ends_at e l ≡ ends_at e l = omega arith in
    rw (h, position_from-zero e l) (rw (z, n) at (ends_from e 0 l))

-- THE REST: a text that is not empty is its first piece, and the pieces behind the byte that ends it
pub pieces_next : (e : ℕ → Bool) (b : ℕ) (l : List ℕ)
    → pieces e (b ∷ l) ≡ take (ends_at e (b ∷ l)) (b ∷ l) ∷ pieces e (drop (suc (ends_at e (b ∷ l))) (b ∷ l))
unfolding pieces ends_at onto
pieces_next e b [] = go (e b)
  where
    go : (t : Bool) → cond t ([] ∷ []) ((b ∷ []) ∷ []) ≡ take (cond t 0 1) (b ∷ []) ∷ pieces e (drop (cond t 0 1) [])
    go true = refl
    go false = refl
pieces_next e b (c ∷ l) = go (e b) (pieces_next e c l)
  where
    go : (t : Bool) → pieces e (c ∷ l) ≡ take (ends_at e (c ∷ l)) (c ∷ l) ∷ pieces e (drop (suc (ends_at e (c ∷ l))) (c ∷ l))
        → cond t ([] ∷ pieces e (c ∷ l)) (onto b (pieces e (c ∷ l)))
        ≡ take (cond t 0 (suc (ends_at e (c ∷ l)))) (b ∷ c ∷ l) ∷ pieces e (drop (cond t 0 (suc (ends_at e (c ∷ l)))) (c ∷ l))
    go true h = refl
    go false h = ap (onto b) h

-- a part that goes to the end
pub part_rest : (l : List ℕ) (i : ℕ) → take (length l - i) (drop i l) ≡ drop i l
part_rest l i = take_all (length l - i) (drop i l) (simp length-drop (omega arith))

module _ (l : List ℕ) (i : ℕ) where
  pub trimmed_here : i < length l → blank (get_or l i 0) ≡ false → trimmed (drop i l) ≡ drop i l
  unfolding trimmed
  trimmed_here h t = rw (drop-cons l i 0 h, t)

  pub trimmed_next : i < length l → blank (get_or l i 0) ≡ true → trimmed (drop i l) ≡ trimmed (drop (i + 1) l)
  unfolding trimmed
  trimmed_next h t = rw (drop-cons l i 0 h, t, add-one i)

  pub trimmed_none : length l ≤ i → trimmed (drop i l) ≡ drop i l
  unfolding trimmed
  trimmed_none h = rw (drop_of_length-le l h)

pub trimmed_from : (l : List ℕ) → trimmed l ≡ drop (ends_at (λ b. not (blank b)) l) l
unfolding trimmed ends_at
trimmed_from [] = refl
trimmed_from (b ∷ l) = go (blank b) (trimmed_from l)
  where
    go : (t : Bool) → trimmed l ≡ drop (ends_at (λ b. not (blank b)) l) l
        → cond t (trimmed l) (b ∷ l) ≡ drop (cond (not t) 0 (suc (ends_at (λ b. not (blank b)) l))) (b ∷ l)
    go true h = h
    go false h = refl

-- the blanks at the beginning are in no word
words_blank : (b : ℕ) (l : List ℕ) → blank b ≡ true → words (b ∷ l) ≡ words l
unfolding words pieces not_empty
words_blank b l e = rw e

words_trimmed : (l : List ℕ) → words (trimmed l) ≡ words l
unfolding trimmed
words_trimmed [] = refl
words_trimmed (b ∷ l) = go (blank b) refl (words_trimmed l)
  where
    go : (t : Bool) → blank b ≡ t → words (trimmed l) ≡ words l → words (cond t (trimmed l) (b ∷ l)) ≡ words (b ∷ l)
    go true e h = h ∙ sym (words_blank b l e)
    go false e h = refl

-- nor is the blank behind a word
words_behind : (l : List ℕ) → words (drop (ends_at blank l) l) ≡ words (drop (suc (ends_at blank l)) l)
unfolding ends_at
words_behind [] = refl
words_behind (b ∷ l) = go (blank b) refl (words_behind l)
  where
    go : (t : Bool) → blank b ≡ t → words (drop (ends_at blank l) l) ≡ words (drop (suc (ends_at blank l)) l)
        → words (drop (cond t 0 (suc (ends_at blank l))) (b ∷ l)) ≡ words (drop (cond t 0 (suc (ends_at blank l))) l)
    go true e h = words_blank b l e
    go false e h = h

-- what is trimmed is empty or begins with a word
data Trimmed : List ℕ → Type 0 where
  none : Trimmed []
  some : {b : ℕ} {l : List ℕ} → blank b ≡ false → Trimmed (b ∷ l)

trimmed_so : (l : List ℕ) → Trimmed (trimmed l)
unfolding trimmed
trimmed_so [] = none
trimmed_so (b ∷ l) = go (blank b) refl (trimmed_so l)
  where
    go : (t : Bool) → blank b ≡ t → Trimmed (trimmed l) → Trimmed (cond t (trimmed l) (b ∷ l))
    go true e h = h
    go false e h = some e

words_begin : (b : ℕ) (l : List ℕ) → blank b ≡ false
    → words (b ∷ l) ≡ take (ends_at blank (b ∷ l)) (b ∷ l) ∷ words (drop (ends_at blank (b ∷ l)) (b ∷ l))
unfolding words ends_at not_empty
words_begin b l e =
    rw (pieces_next blank b l, e) (ap (λ (ws : List (List ℕ)). (b ∷ take (ends_at blank l) l) ∷ ws) (sym (words_behind l)))

no_words : words [] ≡ []
unfolding words pieces not_empty
no_words = refl

no_word : length (take {A = ℕ} (ends_at blank []) []) ≡ 0
unfolding ends_at
no_word = refl

begins : (b : ℕ) (l : List ℕ) → blank b ≡ false → length (take (ends_at blank (b ∷ l)) (b ∷ l)) ≡ 0 → ⊥
unfolding ends_at
begins b l e h = let z : suc (length (take (ends_at blank l) l)) ≡ 0 = rw e at h in omega arith

-- THE WORDS of a line: none if the first is empty, else the first, and those of what follows
module _ (l : List ℕ) where
  pub words_none : length (first_word l) ≡ 0 → words l ≡ []
  unfolding first_word
  words_none h = sym (words_trimmed l) ∙ go (trimmed l) (trimmed_so l) h
    where
      go : (t : List ℕ) → Trimmed t → length (take (ends_at blank t) t) ≡ 0 → words t ≡ []
      go _ none k = no_words
      go _ (some {b} {l} e) k = absurd (begins b l e k)

  pub words_some : (length (first_word l) ≡ 0 → ⊥) → words l ≡ first_word l ∷ words (after_word l)
  unfolding first_word after_word
  words_some h = sym (words_trimmed l) ∙ go (trimmed l) (trimmed_so l) h
    where
      go : (t : List ℕ) → Trimmed t → (length (take (ends_at blank t) t) ≡ 0 → ⊥)
          → words t ≡ take (ends_at blank t) t ∷ words (drop (ends_at blank t) t)
      go _ none k = absurd (k no_word)
      go _ (some {b} {l} e) k = words_begin b l e

-- taken one by one, from behind the blanks to the end of a word: the first word, and a rest with the others; or no word, and a rest with none
module _ (l : List ℕ) {from word rest : List ℕ} {n : ℕ} (f : from ≡ trimmed l) (e : n ≡ ends_at blank from) (w : word ≡ take n from)
    (r : rest ≡ drop n from) where
  is_first : word ≡ first_word l
  unfolding first_word
  is_first = w ∙ rw (e, f)

  is_after : rest ≡ after_word l
  unfolding after_word
  is_after = r ∙ rw (e, f)

  pub words_more : (length word ≡ 0 → ⊥) → words l ≡ word ∷ words rest
  words_more h = rw (is_first, is_after) (words_some l (rw is_first at h))

  pub words_over : length word ≡ 0 → (words l ≡ []) × (words rest ≡ [])
  unfolding first_word after_word ends_at
  words_over h = let k : length (first_word l) ≡ 0 = rw is_first at h in (words_none l k, rw is_after (go (trimmed l) (trimmed_so l) k))
    where
      go : (t : List ℕ) → Trimmed t → length (take (ends_at blank t) t) ≡ 0 → words (drop (ends_at blank t) t) ≡ []
      go _ none k = no_words
      go _ (some {b} {l} e) k = absurd (begins b l e k)
