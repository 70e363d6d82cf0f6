-- Bytes stored in a list that was lent, from a place on. What is written after what was written is one text.
-- Main: wrote_none, wrote_byte, wrote_part, wrote_then, wrote_length, copying_next, writes_then, room_after, writing; joining_start, joining_room,
-- joining_next, joins_next; partway_start, partway_next, partway_room, part_next; room_enough.
use Rattle.std.specs.Prelude.{◌≡◌, refl, List, [], ◌∷◌, ◌++◌, ℕ, zero, suc, ◌+◌, ◌≤◌, ◌<◌, length, take, drop, get_or, set}
use Rattle.std.proofs.Common.{sym, ◌∙◌, ap, append_assoc, append-nil, add-one, arith, length-append, drop_of_length-le, take_all, take-suc, lt-ltb, le-ltb}
use Rattle.std.proofs.Math.Decide.{ℕ_discrete}
use Rattle.std.proofs.Math.Seq.{take-append_seam, length-sets}
use Rattle.std.proofs.lemmas.List.{drop-drop}
use Rattle.std.proofs.lemmas.List.Edits.{sets, sets-eq}
use borrow.Rule.Slice.PartMut.{put_mid}
use Rattle.refusal.specs.Replies.{number}
use Rattle.refusal.specs.declared.Refusal.TheVariants.{Length}
use Rattle.text.specs.Text.{joined, written, room_refusal}
use Rattle.text.specs.declared.lent.Lent.{Lent}
use Rattle.text.specs.Decimal.{decimal_one, decimal_more, one_length, more_length}
use Rattle.text.specs.Writing.{Wrote, HasRoom, Writes, Copying, Joining, Joins, Partway, PartWritten}

-- IN STORES, one element after another: that has no side condition
module _ {A : Type 0} where
  stored : (old : List A) (a : ℕ) (x : List A) → a + length x ≤ length old → written old a x ≡ sets old a x
  unfolding written
  stored old a x h = sym (sets-eq x old a h)

  sets_append : (old : List A) (a : ℕ) (x y : List A) → sets old a (x ++ y) ≡ sets (sets old a x) (a + length x) y
  sets_append old a [] y = let e : a + 0 ≡ a = omega arith in rw e
  sets_append old a (b ∷ x) y = let e : a + suc (length x) ≡ suc a + length x = omega arith in rw e (sets_append (set old a b) (suc a) x y)

  written_length : (old : List A) (a : ℕ) (x : List A) → a + length x ≤ length old → length (written old a x) ≡ length old
  written_length old a x h = ap length (stored old a x h) ∙ length-sets old a x

  -- THE LAW OF COMPOSITION
  written_then : (old : List A) (a : ℕ) (x y : List A) → a + length (x ++ y) ≤ length old
      → written (written old a x) (a + length x) y ≡ written old a (x ++ y)
  written_then old a x y h =
      let l = length-append x y in
      let e = stored old a x (omega arith) in
      let n = length-sets old a x in
      rw e (stored (sets old a x) (a + length x) y (omega arith) ∙ sym (sets_append old a x y) ∙ sym (stored old a (x ++ y) h))

  -- what was written at the beginning is the beginning
  pub written_front : (old x : List A) → take (length x) (written old 0 x) ≡ x
  unfolding written
  written_front old x = take-append_seam x (drop (0 + length x) old)

  -- NOTHING, AND ONE ELEMENT
  pub wrote_none : (old : List A) (a : ℕ) → a ≤ length old → Wrote old a [] old a
  wrote_none old a h = record { room = omega arith; text = sym (stored old a [] (omega arith)); after = omega arith }

  pub wrote_byte : (old : List A) (a : ℕ) (b : A) → a < length old → Wrote old a (b ∷ []) (set old a b) (a + 1)
  wrote_byte old a b h = record { room = omega arith; text = sym (stored old a (b ∷ []) (omega arith)); after = omega arith }

  -- a slice copied into a part
  pub wrote_part : (old : List A) (a k : ℕ) (x now : List A) → now ≡ x → k ≡ length x → a + length x ≤ length old
      → Wrote old a x (put_mid a k old now) (a + length x)
  unfolding written
  wrote_part old a k x now p q h = record {
    room = h;
    text = rw (p, q, drop-drop (length x) a old) (sym (append_assoc (take a old) x (drop (a + length x) old)));
    after = omega arith;
  }

  -- ONE TEXT AFTER ANOTHER
  pub wrote_length : {old : List A} {a : ℕ} {x new : List A} {next : ℕ} → Wrote old a x new next → length new ≡ length old
  wrote_length {old} {a} {x} w = ap length w.text ∙ written_length old a x w.room

  pub wrote_then : {old : List A} {a : ℕ} {x mid : List A} {b : ℕ} {y new : List A} {next : ℕ}
      → Wrote old a x mid b → Wrote mid b y new next → Wrote old a (x ++ y) new next
  wrote_then {old} {a} {x} {mid} {b} {y} {new} {next} v w =
      let l = length-append x y in
      let n = wrote_length v in
      let h : a + length (x ++ y) ≤ length old = omega (arith, v.after, w.room) in
      record {
        room = h;
        text = w.text ∙ rw (v.text, v.after) (written_then old a x y h);
        after = omega (arith, v.after, w.after);
      }

  -- a text as long as the list is what the list holds then
  pub wrote_whole : {old x new : List A} {next : ℕ} → Wrote old 0 x new next → length old ≡ length x → new ≡ x
  unfolding written
  wrote_whole {old} {x} w e =
      w.text ∙ ap (λ (t : List A). x ++ t) (drop_of_length-le old {i = 0 + length x} (omega arith)) ∙ append-nil x

  -- ROOM for two texts is room for the second after the first
  pub room_then : {old : List A} {a : ℕ} {x mid : List A} {b : ℕ} → Wrote old a x mid b → (y : List A)
      → a + length (x ++ y) ≤ length old → b + length y ≤ length mid
  room_then {old} {a} {x} w y h = let l = length-append x y in let n = wrote_length w in omega (arith, w.after)

-- A WORD BYTE BY BYTE
pub copying_start : (old : List ℕ) (a : ℕ) (word : List ℕ) → a ≤ length old → Copying old a word old 0
copying_start old a word h =
    let e : a + 0 ≡ a = omega arith in
    record { within = omega arith; wrote = rw e (wrote_none old a h) }

module _ {old : List ℕ} {a : ℕ} {word new : List ℕ} {i : ℕ} (g : Copying old a word new i) where
  pub copying_next : a + length word ≤ length old → i < length word → Copying old a word (set new (a + i) (get_or word i 0)) (i + 1)
  copying_next r h =
      let n = wrote_length g.wrote in
      let e : a + (i + 1) ≡ a + i + 1 = omega arith in
      record {
        within = omega arith;
        wrote = rw (e, add-one i, take-suc word i 0 h) (wrote_then g.wrote (wrote_byte new (a + i) (get_or word i 0) (omega arith)));
      }

  pub copying_end : length word ≤ i → Wrote old a word new (a + i)
  copying_end h = rw (take_all i word h) at g.wrote

-- INTO A LENT LIST: nothing, and one after another
pub writes_none : {A : Type 0} (l : Lent A) → l.at ≤ length l.list.now → Writes l [] l
writes_none l h = record { same_list = refl; wrote = wrote_none l.list.now l.at h }

module _ {A : Type 0} {old mid : Lent A} {x : List A} (v : Writes old x mid) where
  pub writes_then : {y : List A} {new : Lent A} → Writes mid y new → Writes old (x ++ y) new
  writes_then w = record { same_list = w.same_list ∙ v.same_list; wrote = wrote_then v.wrote w.wrote }

  -- room for both is room for the second
  pub room_after : (y : List A) → HasRoom old (x ++ y) → HasRoom mid y
  room_after y h = room_then v.wrote y h

  pub writes_at : mid.at ≡ old.at + length x
  writes_at = v.wrote.after

  pub writes_length : length mid.list.now ≡ length old.list.now
  writes_length = wrote_length v.wrote

-- what the check needs to write one text after another
pub ruleset writing = (writes_then, writes_at, writes_length, length-append)

pub ruleset writing_digits = (writing, decimal_one, decimal_more, one_length, more_length)

-- TEXTS ONE AFTER ANOTHER, n in all: the first k were written
pub joined_next : (t : ℕ → List ℕ) (k : ℕ) → joined t (k + 1) ≡ joined t k ++ t k
unfolding joined
joined_next t k = rw (add-one k)

joined_rises : (t : ℕ → List ℕ) (j k : ℕ) → j ≤ k → length (joined t j) ≤ length (joined t k)
unfolding joined
joined_rises t j zero h = let z : j ≡ 0 = omega arith in rw z (omega arith)
joined_rises t j (suc k) h =
    elim (ℕ_discrete j (suc k)) [
      | yes p ↦ rw p (omega arith)
      | no n ↦ omega (arith, joined_rises t j k (omega arith), length-append (joined t k) (t k))
    ]

pub joining_start : (t : ℕ → List ℕ) (n : ℕ) (old : List ℕ) (a : ℕ) → a ≤ length old → Joining t n old a old a 0
unfolding joined
joining_start t n old a h = record { within = omega arith; wrote = wrote_none old a h }

module _ {t : ℕ → List ℕ} {n : ℕ} {old : List ℕ} {a : ℕ} {new : List ℕ} {next k : ℕ} (g : Joining t n old a new next k) where
  -- where all have room, the next has room after those before it
  pub joining_room : k < n → a + length (joined t n) ≤ length old → next + length (t k) ≤ length new
  joining_room h r = room_then g.wrote (t k) (rw (← joined_next t k) (omega (arith, joined_rises t (k + 1) n (omega arith))))

  pub joining_next : k < n → {then : List ℕ} {after : ℕ} → Wrote new next (t k) then after → Joining t n old a then after (k + 1)
  joining_next h w = record { within = omega arith; wrote = rw (joined_next t k) (wrote_then g.wrote w) }

  pub joining_end : n ≤ k → Wrote old a (joined t n) new next
  joining_end h = let p : k ≡ n = omega (arith, g.within) in rw p at g.wrote

-- the same into a lent list
pub joins_start : (t : ℕ → List ℕ) (l : Lent ℕ) → l.at ≤ length l.list.now → Joins t l l 0
unfolding joined
joins_start t l h = record { writes = writes_none l h }

module _ {t : ℕ → List ℕ} {old mid : Lent ℕ} {k : ℕ} (j : Joins t old mid k) where
  pub joins_next : {new : Lent ℕ} → Writes mid (t k) new → Joins t old new (k + 1)
  joins_next w = record { writes = rw (joined_next t k) (writes_then j.writes w) }

  pub joins_end : (n : ℕ) → k ≡ n → Writes old (joined t n) mid
  joins_end n e = rw e at j.writes

  pub joins_room : (n : ℕ) → k < n → HasRoom old (joined t n) → HasRoom mid (t k)
  joins_room n h r = room_after j.writes (t k) (rw (← joined_next t k) (omega (arith, joined_rises t (k + 1) n (omega arith))))

pub partway_start : (old : List ℕ) (a : ℕ) (whole : List ℕ) → a ≤ length old → Partway old a whole whole old a
partway_start old a whole h = record { so_far = []; wrote = wrote_none old a h; whole_is = refl }

module _ {old : List ℕ} {a : ℕ} {whole left new : List ℕ} {b : ℕ} (p : Partway old a whole left new b) where
  -- the next part has room where the whole has
  pub partway_room : (x y : List ℕ) → left ≡ x ++ y → a + length whole ≤ length old → b + length x ≤ length new
  partway_room x y e h =
      let l = length-append p.so_far left in
      let m = length-append x y in
      let n = ap length e in
      let w = ap length p.whole_is in
      omega (arith, p.wrote.after, wrote_length p.wrote)

  pub partway_next : (x y : List ℕ) {mid : List ℕ} {c : ℕ} → left ≡ x ++ y → Wrote new b x mid c → Partway old a whole y mid c
  partway_next x y e w = record {
    so_far = p.so_far ++ x;
    wrote = wrote_then p.wrote w;
    whole_is = append_assoc p.so_far x y ∙ ap (λ (t : List ℕ). p.so_far ++ t) (sym e) ∙ p.whole_is;
  }

  pub partway_end : left ≡ [] → Wrote old a whole new b
  partway_end e =
      let z : p.so_far ≡ whole = sym (append-nil p.so_far) ∙ ap (λ (t : List ℕ). p.so_far ++ t) (sym e) ∙ p.whole_is in
      rw z at p.wrote

-- the same into a lent list
pub part_start : {A : Type 0} (l : Lent A) (whole : List A) → l.at ≤ length l.list.now → PartWritten l whole whole l
part_start l whole h = record { so_far = []; writes = writes_none l h; whole_is = refl }

module _ {A : Type 0} {old mid : Lent A} {whole left : List A} (p : PartWritten old whole left mid) where
  pub part_room : (x y : List A) → left ≡ x ++ y → HasRoom old whole → HasRoom mid x
  part_room x y e h =
      let l = length-append p.so_far left in
      let m = length-append x y in
      let n = ap length e in
      let w = ap length p.whole_is in
      omega (arith, writes_at p.writes, writes_length p.writes)

  pub part_next : (x y : List A) {new : Lent A} → left ≡ x ++ y → Writes mid x new → PartWritten old whole y new
  part_next x y e w = record {
    so_far = p.so_far ++ x;
    writes = writes_then p.writes w;
    whole_is = append_assoc p.so_far x y ∙ ap (λ (t : List A). p.so_far ++ t) (sym e) ∙ p.whole_is;
  }

  pub part_end : left ≡ [] → Writes old whole mid
  part_end e =
      let z : p.so_far ≡ whole = sym (append-nil p.so_far) ∙ ap (λ (t : List A). p.so_far ++ t) (sym e) ∙ p.whole_is in
      rw z at p.writes

-- THE LIST LENT is too short for the longest text, or long enough
pub room_short : (n : ℕ) (t : List ℕ) → length t < n → room_refusal n t ≡ number Length
unfolding room_refusal
room_short n t h = rw (lt-ltb (length t) n h)

pub room_enough : (n : ℕ) (t : List ℕ) → n ≤ length t → room_refusal n t ≡ 0
unfolding room_refusal
room_enough n t h = rw (le-ltb (length t) n h)
