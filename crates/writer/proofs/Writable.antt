-- Lists that the writer does not refuse, and what each of its tests then says of them.
-- Main: writable, some_counts.
use Rattle.std.specs.Prelude.{◌≡◌, Bool, ◌&&◌, not, List, [], ◌∷◌, ℕ, ◌*◌, ◌≤◌, length}
use Rattle.std.proofs.Math.Path.{refl}
use Rattle.std.proofs.Math.Bool.{true, false, cond}
use Rattle.std.proofs.Common.{arith}
use Rattle.std.proofs.Math.Dec.{ltb, eqb}
use borrow.Author.Tests.{ltb-false, eqb-true, eqb-false, le-ltb, eq-eqb, ne_eqb}
use Rattle.algebra.specs.Lists.{All}
use Rattle.algebra.specs.Tests.{neither}
use Rattle.refusal.specs.Replies.{number}
use Rattle.refusal.specs.declared.Refusal.TheVariants.{Length, BookSize, TuneNumber, Layout, StrikeField}
use Rattle.strike.specs.Turns.{strikes_bad}
use Rattle.book.specs.Layout.{longest_book}
use Rattle.book.specs.Open.{rising}
use Rattle.writer.specs.Writing.{all_cards, book_length, any_zero, lengths_good, write_refusal}
use Rattle.writer.specs.Writable.{Writable}

module _ (ns cs ss : List ℕ) (r : ℕ) where
  pub writable : write_refusal ns cs ss r ≡ 0 → Writable ns cs ss r
  unfolding write_refusal lengths_good
  writable e =
      go (strikes_bad ss) refl (eqb (length cs) (length ns)) refl (ltb longest_book (book_length cs)) refl (rising 1 ns) refl (any_zero cs) refl
      (eqb (length ss) (3 * all_cards cs)) refl (eqb r (book_length cs)) refl e
    where
      go : (f : Bool) → strikes_bad ss ≡ f → (p : Bool) → eqb (length cs) (length ns) ≡ p → (s : Bool) → ltb longest_book (book_length cs) ≡ s
          → (n : Bool) → rising 1 ns ≡ n → (z : Bool) → any_zero cs ≡ z → (l : Bool) → eqb (length ss) (3 * all_cards cs) ≡ l
          → (w : Bool) → eqb r (book_length cs) ≡ w
          → cond f (number StrikeField) (cond (not p) (number Length) (cond s (number BookSize) (cond (not n) (number TuneNumber)
          (cond z (number Layout) (cond (not (l && w)) (number Length) 0))))) ≡ 0 → Writable ns cs ss r
      go true a p b s c n d z g l h w i e = absurd (omega arith)
      go false a false b s c n d z g l h w i e = absurd (omega arith)
      go false a true b true c n d z g l h w i e = absurd (omega arith)
      go false a true b false c false d z g l h w i e = absurd (omega arith)
      go false a true b false c true d true g l h w i e = absurd (omega arith)
      go false a true b false c true d false g false h w i e = absurd (omega arith)
      go false a true b false c true d false g true h false i e = absurd (omega arith)
      go false a true b false c true d false g true h true i e = record {
        strikes_in = a;
        paired = eqb-true (length cs) (length ns) b;
        size = ltb-false longest_book (book_length cs) c;
        rise = d;
        counted = g;
        numbers = eqb-true (length ss) (3 * all_cards cs) h;
        fits = eqb-true r (book_length cs) i;
      }

  pub unrefused : Writable ns cs ss r → write_refusal ns cs ss r ≡ 0
  unfolding write_refusal lengths_good
  unrefused w =
      rw (
        w.strikes_in,
        eq-eqb (length cs) (length ns) w.paired,
        le-ltb longest_book (book_length cs) w.size,
        w.rise,
        w.counted,
        eq-eqb (length ss) (3 * all_cards cs) w.numbers,
        eq-eqb r (book_length cs) w.fits,
      )

-- COUNTS: none is 0 exactly if each is 1 at least
pub counts_some : (cs : List ℕ) → any_zero cs ≡ false → All (λ c. 1 ≤ c) cs
unfolding any_zero
counts_some [] e = tt
counts_some (c ∷ cs) e =
    let (z, t) = neither (eqb c 0) (any_zero cs) e in
    let n = eqb-false c 0 z in
    (omega arith, counts_some cs t)

pub some_counts : (cs : List ℕ) → All (λ c. 1 ≤ c) cs → any_zero cs ≡ false
unfolding any_zero
some_counts [] h = refl
some_counts (c ∷ cs) h = let l = h.0 in rw (ne_eqb c 0 (λ e. omega arith)) (some_counts cs h.1)
