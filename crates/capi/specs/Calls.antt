-- What the functions of the C interface promise: the refusal's number, and what is in each list and number lent afterwards. Of calls that are lent
-- one number, of those of the cable, and of each number of wear, `Gives` (refusal/Replies) says it.
-- Main: Encodes, Tests, Decodes, DecodesDead, Pulls, Lists, Reads, Writes, Fills.
use Rattle.std.specs.Prelude.{◌≡◌, List, ℕ, length}
use Rattle.refusal.specs.Replies.{unless}
use Rattle.coding.specs.Code.{word, test_values}
use Rattle.coding.specs.Decode.{decode}
use Rattle.coding.specs.Mu.{mu}
use Rattle.codec.specs.Operations.{encode_refusal, syndrome_refusal}
use Rattle.decoder.specs.Filling.{or_empty}
use Rattle.decoder.specs.Decoding.{decode_refusal, decoded_word, damage}
use Rattle.dead_lines.specs.Struck.{live_rank}
use Rattle.dead_lines.specs.DecodeDead.{decode_dead}
use Rattle.dead_decoder.specs.Operation.{dead_refusal, dead_word}
use Rattle.book.specs.Pull.{pull_refusal, pulled, pulled_from}
use Rattle.book.specs.Entries.{tune_at}
use Rattle.book.specs.Reading.{reading}
use Rattle.text.specs.Text.{written, room_refusal}
use Rattle.report.specs.declared.Kind.TheVariants.{Listing}
use Rattle.report.specs.Reports.{report, longest}
use Rattle.writer.specs.Writing.{book_bytes, write_refusal}

-- encoding, testing and decoding fill their lists
pub record Encodes (k : ℕ) (m w : List ℕ) (r : ℕ) (w-now : List ℕ) : Type 0 where
  pub answers : r ≡ encode_refusal k m (length w)
  pub word_is : w-now ≡ unless (encode_refusal k m (length w)) (word k m) w

pub record Tests (k : ℕ) (c v : List ℕ) (r : ℕ) (v-now : List ℕ) : Type 0 where
  pub answers : r ≡ syndrome_refusal k c (length v)
  pub values_are : v-now ≡ unless (syndrome_refusal k c (length v)) (test_values k (mu k) c) v

pub record Decodes (k : ℕ) (c w m : List ℕ) (d r : ℕ) (w-now m-now : List ℕ) (d-now : ℕ) : Type 0 where
  pub answers : r ≡ decode_refusal k c (length w) (length m)
  pub word_is : w-now ≡ unless (decode_refusal k c (length w) (length m)) (decoded_word k c) w
  pub message_is : m-now ≡ unless (decode_refusal k c (length w) (length m)) (or_empty (decode k c)) m
  pub distance_is : d-now ≡ unless (decode_refusal k c (length w) (length m)) (damage k c).rank d

pub record DecodesDead (k : ℕ) (c : List ℕ) (ρ σ : ℕ) (w m : List ℕ) (p r : ℕ) (w-now m-now : List ℕ) (p-now : ℕ) : Type 0 where
  pub answers : r ≡ dead_refusal k c ρ σ (length w) (length m)
  pub word_is : w-now ≡ unless (dead_refusal k c ρ σ (length w) (length m)) (dead_word k ρ σ c) w
  pub message_is : m-now ≡ unless (dead_refusal k c ρ σ (length w) (length m)) (or_empty (decode_dead k ρ σ c)) m
  pub rank_is : p-now ≡ unless (dead_refusal k c ρ σ (length w) (length m)) (live_rank ρ σ (dead_word k ρ σ c) c) p

-- pulling gives the part as its offset and its length
pub record Pulls (bs : List ℕ) (t o l r o-now l-now : ℕ) : Type 0 where
  pub answers : r ≡ pull_refusal bs t
  pub offset_is : o-now ≡ unless (pull_refusal bs t) (pulled_from bs t) o
  pub length_is : l-now ≡ unless (pull_refusal bs t) (length (pulled bs t)) l

-- a tune of the contents is given as its number and its count of cards
pub record Lists (bs : List ℕ) (e n c r n-now c-now : ℕ) : Type 0 where
  pub answers : r ≡ (tune_at bs e).refusal
  pub number_is : n-now ≡ unless (tune_at bs e).refusal (tune_at bs e).value.number n
  pub cards_is : c-now ≡ unless (tune_at bs e).refusal (tune_at bs e).value.cards c

-- reading gives a strike with its damage
pub record Reads (bs : List ℕ) (n b f d x r b-now f-now d-now x-now : ℕ) : Type 0 where
  pub answers : r ≡ (reading bs n).refusal
  pub bell_is : b-now ≡ unless (reading bs n).refusal (reading bs n).value.strike.bell b
  pub force_is : f-now ≡ unless (reading bs n).refusal (reading bs n).value.strike.force f
  pub delay_is : d-now ≡ unless (reading bs n).refusal (reading bs n).value.strike.delay d
  pub damage_is : x-now ≡ unless (reading bs n).refusal (reading bs n).value.damage.rank x

-- the listing at the start of the text, and its length
pub record Writes (bs text : List ℕ) (w r : ℕ) (text-now : List ℕ) (w-now : ℕ) : Type 0 where
  pub answers : r ≡ room_refusal longest text
  pub text_is : text-now ≡ unless (room_refusal longest text) (written text 0 (report Listing bs)) text
  pub written_is : w-now ≡ unless (room_refusal longest text) (length (report Listing bs)) w

-- writing fills a book
pub record Fills (ns cs ss bs : List ℕ) (r : ℕ) (bs-now : List ℕ) : Type 0 where
  pub answers : r ≡ write_refusal ns cs ss (length bs)
  pub book_is : bs-now ≡ unless (write_refusal ns cs ss (length bs)) (book_bytes ns cs ss) bs
