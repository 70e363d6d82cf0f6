-- The page that a sceptic reads first: what each operation answers and leaves in the lists lent to it, in the words of SPECIFICATION 8.
-- src/lib.rt promises it of the operations themselves. To be read with rank/Definitions, rank/Weight, coding/Code, coding/Promise, strike/Strikes,
-- book/Layout and book/Open; for dead lines also with dead_lines/Struck and `ones` of rank/Mask; for Write with strike/Turns, writer/Writing and
-- `Shows` of writer/Shown; for the cable with levels/Levels and `Sent` of levels/Received. What holds of written books is `BooksSay`
-- (WrittenBooks). Answers are replies (refusal/Replies): `outcome`, `reply`, `weight_reply` (rank/Weight), `read_reply` (book/Reading), `worn_reply`
-- (book/Bodies), `wear_reply` (wear/Wear) and `signed_reply` (cable/Operations) give them for each case of an enum. A message or a list mu that is
-- named here is the only one of its kind.
-- Main: CodeSays, PressSays, WeighSays, TestSays, MendSays, MendDeadSays, MendsAlike, OpenSays, PullSays, EmptySays, StrikesSay,
-- ReadSays, LengthSays, WornSays, WearSays, WriteSays, SizeSays, CableSays, SignedSays, SymbolSays, LevelsSays, SymbolsSays,
-- ReceiveSays, MendsSent.
--
-- THE FIRST DEMAND: every operation ends, does nothing undefined, refuses bad input by number in a fixed order, and then changes nothing.
-- That it ends and does nothing undefined is what a proof in Rattle is, and no operation has a `requires`. Each `-refusal` below has the numbers
-- in their order, 0 for none, and each statement says that a refusal leaves the lists as they were.
-- THE SECOND: encoding, testing and reading agree with the code exactly.
-- THE THIRD: for every k from 1 to 5 and every card, decoding finds the one word within the radius, or refuses exactly if there is none.
use Rattle.std.specs.Prelude.{◌≡◌, ◌⊎◌, ◌≢◌, ◌↔◌, Bool, true, false, ◌&&◌, ◌||◌, not, cond, List, [], ◌∷◌, map, ℕ, zero, suc, ◌+◌, ◌*◌, ◌-◌, ◌≤◌, ◌<◌, ltb, eqb, length, take, drop, ℤ, pos, negsuc, neg_ℤ}
use Rattle.std.proofs.Math.Option.{Option, none, some}
use Rattle.algebra.specs.Field.{minus}
use Rattle.algebra.specs.Tests.{any, any_above}
use Rattle.algebra.specs.SmallField.{SmallField}
use Rattle.refusal.specs.Replies.{Reply, replied, refused_with, reply_with}
use Rattle.rank.specs.declared.Weight.{Weight}
use Rattle.rank.specs.Definitions.{is_card, difference}
use Rattle.rank.specs.Distance.{RankEven}
use Rattle.rank.specs.Weight.{weight_of, no_weight}
use Rattle.coding.specs.Code.{word, is_message, Near, test_values}
use Rattle.coding.specs.Promise.{OneNear, FarApart, WordsCards, Mu, MuThere, TestTells}
use Rattle.dead_lines.specs.Struck.{dead_lines, live_rank, NearDead, OneNearDead}
use Rattle.levels.specs.Levels.{signed_of, outside, symbol_of, received}
use Rattle.levels.specs.Received.{Sent}
use Rattle.codec.specs.Operations.{k_bad}
use Rattle.strike.specs.declared.Strike.{Strike}
use Rattle.strike.specs.Strikes.{strike_of, strike_message}
use Rattle.strike.specs.Turns.{any_beyond}
use Rattle.book.specs.Layout.{tunes, tune_number, offset, cards, tune_numbers, body_good, card}
use Rattle.book.specs.Open.{rising, bodies_good}
use Rattle.book.specs.Reading.{CardValue, no_value, cards_in}
use Rattle.wear.specs.declared.runs.Run.{Run}
use Rattle.wear.specs.Wear.{no_run}
use Rattle.writer.specs.Writing.{all_cards, any_zero, book_bytes}
use Rattle.writer.specs.Shown.{Shows}

-- with no dead line, the messages near a card but for its dead lines are those near it
unfoldable pub NearAlike : Type 0
NearAlike = (k : ℕ) (c m : List ℕ) → NearDead k 0 0 c m ↔ Near k c m

-- THE CODE ITSELF: OneNear is the third demand's, the next two are its like for dead lines, the others are the second's
pub record CodeSays : Type 0 where
  pub small_field : SmallField
  pub rank_even : RankEven
  pub far_apart : FarApart
  pub words_cards : WordsCards
  pub mu_there : MuThere
  pub test_tells : TestTells
  pub one_near : OneNear
  pub one_near_dead : OneNearDead
  pub near_alike : NearAlike

-- the one message near a card, and that there is none
abbrev pub TheNear : (k : ℕ) → (c m : List ℕ) → Type 0
TheNear k c m = Near k c m × ((p : List ℕ) → Near k c p → p ≡ m)

abbrev pub NoneNear : (k : ℕ) → (c : List ℕ) → Type 0
NoneNear k c = (p : List ℕ) → Near k c p → ⊥

-- the same but for dead rows ρ and dead columns σ
abbrev pub TheNearDead : (k ρ σ : ℕ) → (c m : List ℕ) → Type 0
TheNearDead k ρ σ c m = NearDead k ρ σ c m × ((p : List ℕ) → NearDead k ρ σ c p → p ≡ m)

abbrev pub NoneNearDead : (k ρ σ : ℕ) → (c : List ℕ) → Type 0
NoneNearDead k ρ σ c = (p : List ℕ) → NearDead k ρ σ c p → ⊥

-- PRESS: 1 for k, 2 for a length, 3 for a value above 26; else the word of the message
unfoldable pub press_refusal : (k : ℕ) → (m : List ℕ) → (room : ℕ) → ℕ
press_refusal k m w =
    cond (k_bad k) 1 (cond (not (eqb (length m) (2 * k) && eqb w 6)) 2 (cond (any_above 26 m) 3 0))

unfoldable pub PressSays : (k : ℕ) → (m : List ℕ) → (r : ℕ) → (w w-now : List ℕ) → Type 0
PressSays k m r w v =
    (r ≡ press_refusal k m (length w)) × (v ≡ cond (eqb (press_refusal k m (length w)) 0) (word k m) w)

-- WEIGH: 2 for the length, 3 for a symbol above 728; else the rank, 0 to 6
unfoldable pub weigh_refusal : List ℕ → ℕ
weigh_refusal c = cond (not (eqb (length c) 6)) 2 (cond (any_above 728 c) 3 0)

unfoldable pub WeighSays : List ℕ → Reply Weight → Type 0
WeighSays c r = (r ≡ reply_with no_weight (weigh_refusal c) (weight_of c)) × (r.value.rank ≤ 6)

-- TEST: 1, 2, 3; else the test values, by the only list mu
unfoldable pub test_refusal : (k : ℕ) → (c : List ℕ) → (room : ℕ) → ℕ
test_refusal k c t =
    cond (k_bad k) 1 (cond (not (eqb (length c) 6 && eqb t (12 - 2 * k))) 2 (cond (any_above 728 c) 3 0))

unfoldable pub TestAs : (refusal : ℕ) → (k : ℕ) → (c : List ℕ) → (r : ℕ) → (t t-now : List ℕ) → Type 0
TestAs zero k c r t z = (r ≡ 0) × ((mu : List ℕ) × Mu k mu × (z ≡ test_values k mu c))
TestAs (suc n) k c r t z = (r ≡ suc n) × (z ≡ t)

unfoldable pub TestSays : (k : ℕ) → (c : List ℕ) → (r : ℕ) → (t t-now : List ℕ) → Type 0
TestSays k c r t z = TestAs (test_refusal k c (length t)) k c r t z

-- MEND: 1, 2, 3; else mended, with the word near the card, its message and the rank of the difference, or hopeless, 4
unfoldable pub mend_refusal : (k : ℕ) → (c : List ℕ) → (w m : ℕ) → ℕ
mend_refusal k c w m =
    cond (k_bad k) 1 (cond (not (eqb (length c) 6 && (eqb w 6 && eqb m (2 * k)))) 2 (cond (any_above 728 c) 3 0))

unfoldable pub Mended : (k : ℕ) → (c : List ℕ) → Reply Weight → (w-now m-now : List ℕ) → Type 0
Mended k c r v n = TheNear k c n × (v ≡ word k n) × (r ≡ replied (weight_of (difference (word k n) c)))

unfoldable pub Hopeless : (k : ℕ) → (c : List ℕ) → Reply Weight → (w w-now m m-now : List ℕ) → Type 0
Hopeless k c r w v m n = NoneNear k c × (v ≡ w) × (n ≡ m) × (r ≡ refused_with no_weight 4)

unfoldable pub MendAs : (refusal : ℕ) → (k : ℕ) → (c : List ℕ) → Reply Weight → (w w-now m m-now : List ℕ) → Type 0
MendAs zero k c r w v m n = Mended k c r v n ⊎ Hopeless k c r w v m n
MendAs (suc x) k c r w v m n = (v ≡ w) × (n ≡ m) × (r ≡ refused_with no_weight (suc x))

unfoldable pub MendSays : (k : ℕ) → (c : List ℕ) → Reply Weight → (w w-now m m-now : List ℕ) → Type 0
MendSays k c r w v m n = MendAs (mend_refusal k c (length w) (length m)) k c r w v m n

-- MEND WITH DEAD LINES (document 02, P4): 1; 2; 3 for a symbol, or for a mask above 63; 11 for more than 6 - k dead lines; else mended but for dead
-- rows ρ and columns σ, with the rank of what is left of the difference when they are struck out, or hopeless, 4
unfoldable pub mend_dead_refusal : (k : ℕ) → (c : List ℕ) → (ρ σ w m : ℕ) → ℕ
mend_dead_refusal k c ρ σ w m =
    cond (k_bad k) 1
    (cond (not (eqb (length c) 6 && (eqb w 6 && eqb m (2 * k)))) 2
    (cond (any_above 728 c || (ltb 63 ρ || ltb 63 σ)) 3 (cond (ltb (6 - k) (dead_lines ρ + dead_lines σ)) 11 0)))

unfoldable pub MendedDead : (k : ℕ) → (c : List ℕ) → (ρ σ : ℕ) → Reply ℕ → (w-now m-now : List ℕ) → Type 0
MendedDead k c ρ σ r v n = TheNearDead k ρ σ c n × (v ≡ word k n) × (r ≡ replied (live_rank ρ σ (word k n) c))

unfoldable pub HopelessDead : (k : ℕ) → (c : List ℕ) → (ρ σ : ℕ) → Reply ℕ → (w w-now m m-now : List ℕ) → Type 0
HopelessDead k c ρ σ r w v m n = NoneNearDead k ρ σ c × (v ≡ w) × (n ≡ m) × (r ≡ refused_with 0 4)

unfoldable pub MendDeadAs : (refusal : ℕ) → (k : ℕ) → (c : List ℕ) → (ρ σ : ℕ) → Reply ℕ → (w w-now m m-now : List ℕ) → Type 0
MendDeadAs zero k c ρ σ r w v m n = MendedDead k c ρ σ r v n ⊎ HopelessDead k c ρ σ r w v m n
MendDeadAs (suc x) k c ρ σ r w v m n = (v ≡ w) × (n ≡ m) × (r ≡ refused_with 0 (suc x))

unfoldable pub MendDeadSays : (k : ℕ) → (c : List ℕ) → (ρ σ : ℕ) → Reply ℕ → (w w-now m m-now : List ℕ) → Type 0
MendDeadSays k c ρ σ r w v m n = MendDeadAs (mend_dead_refusal k c ρ σ (length w) (length m)) k c ρ σ r w v m n

-- with both masks 0 it agrees with Mend: if MendSays holds of an answer s and lists u, o, then the refusal, the rank and the lists are the same
unfoldable pub MendsAlike : (k : ℕ) → (c : List ℕ) → Reply ℕ → (w w-now m m-now : List ℕ) → Type 0
MendsAlike k c r w v m n =
    (s : Reply Weight) (u o : List ℕ) → MendSays k c s w u m o → (r.refusal ≡ s.refusal) × (r.value ≡ s.value.rank) × (v ≡ u) × (n ≡ o)

-- OPEN: of no bytes nothing is refused; 5, 6, 7; else the number of tunes
unfoldable pub opening_refusal : List ℕ → ℕ
opening_refusal bs =
    cond (eqb (length bs) 0) 0
    (cond (ltb 65536 (length bs) || (ltb (length bs) 2 || ltb (length bs) (2 + 8 * tunes bs))) 5
    (cond (not (rising 1 (tune_numbers bs))) 6 (cond (not (bodies_good (tunes bs) 0 (2 + 8 * tunes bs) bs)) 7 0)))

unfoldable pub OpenSays : List ℕ → Reply ℕ → Type 0
OpenSays bs r = r ≡ reply_with 0 (opening_refusal bs) (tunes bs)

-- PULL: 5, 6, 7; else the part of the one entry that bears the tune number, or 8. The part is empty exactly on a refusal
abbrev pub Bears : List ℕ → (t e : ℕ) → Type 0
Bears bs t e = (e < tunes bs) × (tune_number bs e ≡ t)

unfoldable pub Pulled : List ℕ → (t r : ℕ) → (part : List ℕ) → Type 0
Pulled bs t r p =
    (r ≡ 0) × (p ≢ []) × ((e : ℕ) × Bears bs t e × ((f : ℕ) → Bears bs t f → f ≡ e) × (p ≡ take (12 * cards bs e) (drop (offset bs e) bs)))

unfoldable pub Missing : List ℕ → (t r : ℕ) → (part : List ℕ) → Type 0
Missing bs t r p = (r ≡ 8) × (p ≡ []) × ((e : ℕ) → Bears bs t e → ⊥)

unfoldable pub PullAs : (refusal : ℕ) → List ℕ → (t r : ℕ) → (part : List ℕ) → Type 0
PullAs zero bs t r p = Pulled bs t r p ⊎ Missing bs t r p
PullAs (suc n) bs t r p = (r ≡ suc n) × (p ≡ [])

unfoldable pub PullSays : List ℕ → (t r : ℕ) → (part : List ℕ) → Type 0
PullSays bs t r p = PullAs (opening_refusal bs) bs t r p

-- THE EMPTY FILE (document 02, P9): Open answers that it has no tunes, Pull answers 8 and gives back nothing; of one byte both answer 5
pub record EmptySays : Type 0 where
  pub opened : (r : Reply ℕ) → OpenSays [] r → r ≡ replied 0
  pub pulled : (t r : ℕ) (part : List ℕ) → PullSays [] t r part → (r ≡ 8) × (part ≡ [])
  pub byte_opened : (b : ℕ) (r : Reply ℕ) → OpenSays (b ∷ []) r → r ≡ refused_with 0 5
  pub byte_pulled : (b t r : ℕ) (part : List ℕ) → PullSays (b ∷ []) t r part → (r ≡ 5) × (part ≡ [])

-- WHAT A MESSAGE MEANS (document 02, P8): an example; a message whose bell is at most 47 means a strike in range, and comes back from it; every
-- strike in range has exactly one message, the one that is pressed
abbrev pub InRange : Strike → Type 0
InRange s = (s.bell ≤ 47) × (s.force ≤ 8) × (s.delay ≤ 728)

pub record StrikesSay : Type 0 where
  pub example : strike_of (20 ∷ 14 ∷ 2 ∷ 1 ∷ []) ≡ record { bell = 47; force = 5; delay = 55 }
  pub back : (m : List ℕ) → is_message 2 m ≡ true → (strike_of m).bell ≤ 47 → InRange (strike_of m) × (strike_message (strike_of m) ≡ m)
  pub message_only : (s : Strike) → InRange s → (m : List ℕ) → ((is_message 2 m ≡ true) × (strike_of m ≡ s)) ↔ (m ≡ strike_message s)

-- READ: 2 for the body, 9 for the card number, 3; else the strike of the message near the card with its damage, or 13 for a bell above 47; or 4 if no
-- message is near
unfoldable pub reading_refusal : (body : List ℕ) → (n : ℕ) → ℕ
reading_refusal bs n =
    cond (not (body_good bs)) 2 (cond (eqb n 0 || ltb (cards_in bs) n) 9 (cond (any_above 728 (card bs n)) 3 0))

unfoldable pub ReadNear : (c m : List ℕ) → Reply CardValue → Type 0
ReadNear c m r =
    TheNear 2 c m
    × (r ≡ cond (ltb 47 (strike_of m).bell) (refused_with no_value 13) (replied (record { strike = strike_of m; damage = weight_of (difference (word 2 m) c) })))

unfoldable pub ReadCard : (c : List ℕ) → Reply CardValue → Type 0
ReadCard c r = ((m : List ℕ) × ReadNear c m r) ⊎ (NoneNear 2 c × (r ≡ refused_with no_value 4))

unfoldable pub ReadAs : (refusal : ℕ) → (c : List ℕ) → Reply CardValue → Type 0
ReadAs zero c r = ReadCard c r
ReadAs (suc n) c r = r ≡ refused_with no_value (suc n)

unfoldable pub ReadSays : (body : List ℕ) → (n : ℕ) → Reply CardValue → Type 0
ReadSays bs n r = ReadAs (reading_refusal bs n) (card bs n) r

-- LENGTH (document 02, P5): 2 for the body; else the sum of the delays, if Read refuses no card, or the refusal of the first card that it refuses.
-- The first k cards are all read, and this is the sum of their delays
pub data Delays (bs : List ℕ) : (k : ℕ) → (sum : ℕ) → Type 0 where
  no_cards : Delays bs 0 0
  one_more : (k d : ℕ) (v : CardValue) → Delays bs k d → ReadSays bs (suc k) (replied v) → Delays bs (suc k) (d + v.strike.delay)

-- Read refuses card n with x
unfoldable pub Hole : (body : List ℕ) → (n x : ℕ) → Type 0
Hole bs n x = (1 ≤ n) × (n ≤ cards_in bs) × (1 ≤ x) × ReadSays bs n (refused_with no_value x)

-- the sum of all; card n is the first that is refused
unfoldable pub LengthSum : (body : List ℕ) → Reply ℕ → Type 0
LengthSum bs r = (d : ℕ) × Delays bs (cards_in bs) d × (r ≡ replied d)

unfoldable pub LengthHole : (body : List ℕ) → Reply ℕ → Type 0
LengthHole bs r = (n : ℕ) × ((x : ℕ) × Hole bs n x × ((m y : ℕ) → m < n → Hole bs m y → ⊥) × (r ≡ refused_with 0 x))

unfoldable pub LengthAs : (good : Bool) → (body : List ℕ) → Reply ℕ → Type 0
LengthAs true bs r = LengthSum bs r ⊎ LengthHole bs r
LengthAs false bs r = r ≡ refused_with 0 2

unfoldable pub LengthSays : (body : List ℕ) → Reply ℕ → Type 0
LengthSays bs r = LengthAs (body_good bs) bs r

-- WORN: 2 for the body; else the first card that Read refuses or mends with rank 1 or more, or none exactly if there is no such card
unfoldable pub Damaged : (body : List ℕ) → (n : ℕ) → Type 0
Damaged bs n = (1 ≤ n) × (n ≤ cards_in bs) × ((r : Reply CardValue) × ReadSays bs n r × ((1 ≤ r.refusal) ⊎ (1 ≤ r.value.damage.rank)))

unfoldable pub WornCard : (body : List ℕ) → Option ℕ → Type 0
WornCard bs (some n) = Damaged bs n × ((m : ℕ) → m < n → Damaged bs m → ⊥)
WornCard bs none = (n : ℕ) → Damaged bs n → ⊥

unfoldable pub WornAs : (good : Bool) → (body : List ℕ) → Reply (Option ℕ) → Type 0
WornAs true bs r = (r.refusal ≡ 0) × WornCard bs r.value
WornAs false bs r = r ≡ refused_with none 2

unfoldable pub WornSays : (body : List ℕ) → Reply (Option ℕ) → Type 0
WornSays bs r = WornAs (body_good bs) bs r

-- WEAR (document 02, P7): 2 for the body; 12 for a width of 0, above 64, or above the count of cards; else the largest sum over w cards in a row, and
-- the first card at which such a run begins. Card n wears by x: by the rank of its damage, or by 3 if Read refuses it
unfoldable pub Wears : (body : List ℕ) → (n x : ℕ) → Type 0
Wears bs n x = (r : Reply CardValue) × ReadSays bs n r × (((r.refusal ≡ 0) × (x ≡ r.value.damage.rank)) ⊎ ((1 ≤ r.refusal) × (x ≡ 3)))

-- the w cards from card n on wear by this sum
pub data RunWears (bs : List ℕ) : (w n : ℕ) → (sum : ℕ) → Type 0 where
  none_wear : (n : ℕ) → RunWears bs 0 n 0
  one_wears : (w n s x : ℕ) → RunWears bs w n s → Wears bs (n + w) x → RunWears bs (suc w) n (s + x)

-- and are cards of the body
unfoldable pub RunAt : (body : List ℕ) → (w n sum : ℕ) → Type 0
RunAt bs w n s = (1 ≤ n) × (n + w ≤ cards_in bs + 1) × RunWears bs w n s

-- no run has a larger sum, and none before this one has the same
unfoldable pub WorstRun : (body : List ℕ) → (w n sum : ℕ) → Type 0
WorstRun bs w n s = RunAt bs w n s × ((m t : ℕ) → RunAt bs w m t → t ≤ s) × ((m t : ℕ) → m < n → RunAt bs w m t → t < s)

unfoldable pub wearing_refusal : (body : List ℕ) → (w : ℕ) → ℕ
wearing_refusal bs w = cond (not (body_good bs)) 2 (cond (eqb w 0 || ltb 64 w || ltb (cards_in bs) w) 12 0)

unfoldable pub WearAs : (refusal : ℕ) → (body : List ℕ) → (w : ℕ) → Reply Run → Type 0
WearAs zero bs w r = (r.refusal ≡ 0) × WorstRun bs w r.value.first r.value.sum
WearAs (suc x) bs w r = r ≡ refused_with no_run (suc x)

unfoldable pub WearSays : (body : List ℕ) → (w : ℕ) → Reply Run → Type 0
WearSays bs w r = WearAs (wearing_refusal bs w) bs w r

-- how many bytes a book with these counts of cards has
abbrev pub bytes_needed : (counts : List ℕ) → ℕ
bytes_needed cs = 2 + 8 * length cs + 12 * all_cards cs

-- WRITE (document 02, P1): 10 for a number of the strikes, bell, force and delay by turns; 2 unless there are as many counts as tune numbers; 5; 6;
-- 7 for a count of 0; 2 unless each card has its three numbers and the lent book the length; else the book of the lists, and it shows them
unfoldable pub writing_refusal : (numbers counts strikes : List ℕ) → (room : ℕ) → ℕ
writing_refusal ns cs ss w =
    cond (any_beyond 47 8 728 ss) 10
    (cond (not (eqb (length cs) (length ns))) 2
    (cond (ltb 65536 (bytes_needed cs)) 5
    (cond (not (rising 1 ns)) 6
    (cond (any_zero cs) 7
    (cond (not (eqb (length ss) (3 * all_cards cs) && eqb w (bytes_needed cs))) 2 0)))))

unfoldable pub WriteSays : (numbers counts strikes : List ℕ) → (r : ℕ) → (bs bs-now : List ℕ) → Type 0
WriteSays ns cs ss r bs b =
    (r ≡ writing_refusal ns cs ss (length bs)) × (b ≡ cond (eqb (writing_refusal ns cs ss (length bs)) 0) (book_bytes ns cs ss) bs)
    × (r ≡ 0 → Shows ns cs ss b)

-- SIZE (document 02, P1): 5; else how many bytes a book with these counts of cards has
unfoldable pub SizeSays : (counts : List ℕ) → Reply ℕ → Type 0
SizeSays cs r = r ≡ reply_with 0 (cond (ltb 65536 (bytes_needed cs)) 5 0) (bytes_needed cs)

-- LEVELS ON THE CABLE (document 02, P6): 0 is 0, 2 is -1, 364 is 364, 728 is -364; signed numbers are -364 to 364, so that they are taken back; each
-- way undoes the other; the field's negative of a symbol is the negated number; and a card each of whose samples falls to its digit's level is
-- received as that card
pub record CableSays : Type 0 where
  pub examples : map signed_of (0 ∷ 2 ∷ 364 ∷ 728 ∷ []) ≡ pos 0 ∷ negsuc 0 ∷ pos 364 ∷ negsuc 363 ∷ []
  pub inside : (c : List ℕ) → any outside (map signed_of c) ≡ false
  pub back : (v : ℕ) → v ≤ 728 → symbol_of (signed_of v) ≡ v
  pub forth : (n : ℤ) → outside n ≡ false → signed_of (symbol_of n) ≡ n
  pub negative : (v : ℕ) → signed_of (minus 0 v) ≡ neg_ℤ (signed_of v)
  pub arrives : (c : List ℕ) → is_card c ≡ true → (s : List ℤ) → Sent c s → received s ≡ c

-- ONE SYMBOL: 3 above 728; else its signed number
unfoldable pub SignedSays : (v : ℕ) → Reply ℤ → Type 0
SignedSays v r = r ≡ reply_with (pos 0) (cond (ltb 728 v) 3 0) (signed_of v)

-- ONE NUMBER: 3 outside -364 to 364; else the symbol whose signed number it is
unfoldable pub SymbolAs : (out : Bool) → (n : ℤ) → Reply ℕ → Type 0
SymbolAs true n r = r ≡ refused_with 0 3
SymbolAs false n r = (v : ℕ) × (v ≤ 728) × (signed_of v ≡ n) × (r ≡ replied v)

unfoldable pub SymbolSays : (n : ℤ) → Reply ℕ → Type 0
SymbolSays n r = SymbolAs (outside n) n r

-- SIX OF THEM: 2 for a length, 3 for a symbol or a number
unfoldable pub six_refusal : (long room : ℕ) → (bad : Bool) → ℕ
six_refusal l w b = cond (not (eqb l 6 && eqb w 6)) 2 (cond b 3 0)

-- LEVELS: the signed numbers of a card
unfoldable pub LevelsSays : (c : List ℕ) → (r : ℕ) → (ns ns-now : List ℤ) → Type 0
LevelsSays c r ns m =
    let x = six_refusal (length c) (length ns) (any_above 728 c) in
    (r ≡ x) × (m ≡ cond (eqb x 0) (map signed_of c) ns)

-- SYMBOLS: the card with these signed numbers
unfoldable pub SymbolsAs : (refusal : ℕ) → (ns : List ℤ) → (r : ℕ) → (c c-now : List ℕ) → Type 0
SymbolsAs zero ns r c d = (r ≡ 0) × (is_card d ≡ true) × (map signed_of d ≡ ns)
SymbolsAs (suc x) ns r c d = (r ≡ suc x) × (d ≡ c)

unfoldable pub SymbolsSays : (ns : List ℤ) → (r : ℕ) → (c c-now : List ℕ) → Type 0
SymbolsSays ns r c d = SymbolsAs (six_refusal (length ns) (length c) (any outside ns)) ns r c d

-- RECEIVE: 2 unless there are 36 samples and room for 6 symbols; else the card to whose digits' levels the samples fall
unfoldable pub ReceiveAs : (refusal : ℕ) → (s : List ℤ) → (r : ℕ) → (c c-now : List ℕ) → Type 0
ReceiveAs zero s r c d = (r ≡ 0) × (is_card d ≡ true) × Sent d s
ReceiveAs (suc x) s r c d = (r ≡ suc x) × (d ≡ c)

unfoldable pub ReceiveSays : (s : List ℤ) → (r : ℕ) → (c c-now : List ℕ) → Type 0
ReceiveSays s r c d = ReceiveAs (cond (not (eqb (length s) 36 && eqb (length c) 6)) 2 0) s r c d

-- MEND FROM THE CABLE: whoever receives a sent card and mends what was received gets what Mend says of the card itself
unfoldable pub MendsSent : (k : ℕ) → (s : List ℤ) → (room : ℕ) → Reply Weight → (w w-now m m-now : List ℕ) → Type 0
MendsSent k s room r w v m n = (c : List ℕ) → is_card c ≡ true → Sent c s → room ≡ 6 → MendSays k c r w v m n
