-- What is demanded of written books holds (specs/WrittenBooks).
-- Main: books_say.
use Rattle.std.specs.Prelude.{refl, List, ℕ}
use Rattle.std.proofs.Common.{sym, subst}
use Rattle.refusal.specs.Replies.{replied}
use Rattle.book.specs.Layout.{card}
use Rattle.book.specs.Open.{size_bad, numbers_bad, bodies_bad, contents_refusal, is_empty, open_refusal}
use Rattle.book.specs.Pull.{pull_refusal, pulled}
use Rattle.book.specs.Reading.{CardValue, reading}
use Rattle.book.specs.Bounds.{Bounded, reading_bounded}
use Rattle.writer.specs.Writing.{book_length, lengths_good, write_refusal}
use Rattle.writer.proofs.Shown.{written_shows}
use Rattle.writer.proofs.Held.{written_held, written_once, empty_clean, never_empty, no_tunes_written}
use Rattle.writer.proofs.Again.{written_again}
use Rattle.demands.specs.Demands.{opening_refusal, PullSays, InRange, reading_refusal, ReadSays, writing_refusal}
use Rattle.demands.specs.Settled.{pull_settled, read_settled}
use Rattle.demands.proofs.BookDemands.{pull_says, read_is}
use Rattle.demands.specs.WrittenBooks.{BooksSay}

strike_ranged : (b : List ℕ) (n : ℕ) (v : CardValue) → ReadSays b n (replied v) → InRange v.strike
unfolding ReadSays
strike_ranged b n v h =
    let r = subst Bounded (sym (read_settled (card b n) (replied v) (reading b n) (reading_refusal b n) h (read_is b n))) (reading_bounded b n) in
    (r.bell, r.force, r.delay)

pub books_say : BooksSay
unfolding PullSays ReadSays opening_refusal open_refusal is_empty contents_refusal size_bad numbers_bad bodies_bad writing_refusal write_refusal lengths_good book_length
books_say = record {
  opening_is = λ bs. refl;
  pulled_is = λ bs t r p h. pull_settled bs t r (pull_refusal bs t) p (pulled bs t) (opening_refusal bs) h (pull_says bs t);
  reading_is = λ b n r h. read_settled (card b n) r (reading b n) (reading_refusal b n) h (read_is b n);
  writing_is = λ ns cs ss room. refl;
  shown = written_shows;
  held = written_held;
  ranged = strike_ranged;
  again = written_again;
  empty = (refl, tt, empty_clean);
  never_empty = never_empty;
  no_tunes = no_tunes_written;
  once = written_once;
}
