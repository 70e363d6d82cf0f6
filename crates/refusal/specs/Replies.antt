-- What answers say in numbers. Every promise about an answer goes through these definitions.
-- Main: number, number_not_zero, outcome, Reply, reply_or, reply, reply_with, refused_reply, value_reply, reply_refused, reply_value, unless, Gives.
use Rattle.std.specs.Prelude.{◌≡◌, refl, false, cond, ℕ, eqb, Result, Ok, Err}
use Rattle.std.proofs.Math.Path.{ap, sym}
use Rattle.std.proofs.Common.{◌∙◌, true≢false, eq-eqb}
use Rattle.refusal.specs.declared.Refusal.{Refusal}
use Rattle.refusal.specs.declared.Refusal.TheVariants.{Dimension, Length, Range, Undecodable, BookSize, TuneNumber, Layout, NoSuchTune, NoSuchCard, StrikeField, DeadLines, Width, NoSuchBell}

-- the number of a refusal
abbrev pub number : Refusal → ℕ
number Dimension = 1
number Length = 2
number Range = 3
number Undecodable = 4
number BookSize = 5
number TuneNumber = 6
number Layout = 7
number NoSuchTune = 8
number NoSuchCard = 9
number StrikeField = 10
number DeadLines = 11
number Width = 12
number NoSuchBell = 13

-- no refusal has the number 0
pub number_not_zero : (r : Refusal) → eqb (number r) 0 ≡ false
number_not_zero Dimension = refl
number_not_zero Length = refl
number_not_zero Range = refl
number_not_zero Undecodable = refl
number_not_zero BookSize = refl
number_not_zero TuneNumber = refl
number_not_zero Layout = refl
number_not_zero NoSuchTune = refl
number_not_zero NoSuchCard = refl
number_not_zero StrikeField = refl
number_not_zero DeadLines = refl
number_not_zero Width = refl
number_not_zero NoSuchBell = refl

-- an outcome: 0 when done, or the refusal's number
abbrev pub outcome : {A : Type 0} → Result A Refusal → ℕ
outcome (Ok _) = 0
outcome (Err r) = number r

-- REPLIES: what an answer says, the refusal's number, 0 if there is none, and the value
pub record Reply (A : Type 0) : Type 0 where
  pub refusal : ℕ
  pub value : A

-- a value; a refusal, whose value is the empty one of its kind
abbrev pub replied : {A : Type 0} → (value : A) → Reply A
replied v = record { refusal = 0; value = v }

abbrev pub refused_with : {A : Type 0} → (empty : A) → (refusal : ℕ) → Reply A
refused_with empty n = record { refusal = n; value = empty }

-- the reply where the refusal is n, 0 if there is none, and the value would be v
unfoldable pub reply_with : {A : Type 0} → (empty : A) → (refusal : ℕ) → (value : A) → Reply A
reply_with empty n v = record { refusal = n; value = cond (eqb n 0) v empty }

-- what an answer says: its value, or its refusal with the empty value of its kind
abbrev pub reply_or : {A : Type 0} → (empty : A) → Result A Refusal → Reply A
reply_or empty (Ok v) = replied v
reply_or empty (Err r) = refused_with empty (number r)

-- of an answer in one number
abbrev pub reply : Result ℕ Refusal → Reply ℕ
reply r = reply_or 0 r

-- A REFUSAL OR NONE, by its number
pub refusal_some : (r : Refusal) → number r ≡ 0 → ⊥
refusal_some r e = true≢false (sym (eq-eqb (number r) 0 e) ∙ number_not_zero r)

module _ {A : Type 0} (empty : A) (n : ℕ) (v : A) where
  pub refused_reply : (why : Refusal) → number why ≡ n → refused_with empty (number why) ≡ reply_with empty n v
  unfolding reply_with
  refused_reply why e = rw (← e, number_not_zero why)

  pub value_reply : n ≡ 0 → replied v ≡ reply_with empty n v
  unfolding reply_with
  value_reply e = rw e

  -- and back: a refusal gives its number, which is not 0; a value says that there is no refusal, and is the value
  pub reply_refused : (why : Refusal) → refused_with empty (number why) ≡ reply_with empty n v → (number why ≡ n) × (n ≡ 0 → ⊥)
  unfolding reply_with
  reply_refused why e =
      let q : number why ≡ n = ap (λ (t : Reply A). t.refusal) e in
      (q, λ z. refusal_some why (q ∙ z))

  pub reply_value : (x : A) → replied x ≡ reply_with empty n v → (n ≡ 0) × (x ≡ v)
  unfolding reply_with
  reply_value x e =
      let z : n ≡ 0 = sym (ap (λ (t : Reply A). t.refusal) e) in
      (z, ap (λ (t : Reply A). t.value) e ∙ rw (eq-eqb n 0 z))

-- the same of an answer in one number
pub answer_refused : (r : Result ℕ Refusal) (why : Refusal) (n v : ℕ) → r ≡ Err why → reply r ≡ reply_with 0 n v → (number why ≡ n) × (n ≡ 0 → ⊥)
answer_refused r why n v p e = reply_refused 0 n v why (rw p at e)

pub answer_value : (r : Result ℕ Refusal) (x n v : ℕ) → r ≡ Ok x → reply r ≡ reply_with 0 n v → (n ≡ 0) × (x ≡ v)
answer_value r x n v p e = reply_value 0 n v x (rw p at e)

-- WHAT IS LENT, afterwards: its new content where nothing was refused, and its old one else
unfoldable pub unless : {A : Type 0} → (refusal : ℕ) → (new old : A) → A
unless n new old = cond (eqb n 0) new old

pub unless_refused : {A : Type 0} (n : ℕ) (new old : A) → eqb n 0 ≡ false → old ≡ unless n new old
unfolding unless
unless_refused n new old e = rw e

pub unless_done : {A : Type 0} (n : ℕ) (new old now : A) → n ≡ 0 → now ≡ new → now ≡ unless n new old
unfolding unless
unless_done n new old now e w = rw (e, w)

-- a call that answers r, whose refusal is n, 0 if there is none, and that gives v: what it was lent held `old`, and holds `now`
pub record Gives {A : Type 0} (n : ℕ) (v old : A) (r : ℕ) (now : A) : Type 0 where
  pub answers : r ≡ n
  pub lent_is : now ≡ unless n v old

-- what an outcome says of the refusal
pub refused_number : {A : Type 0} (n : ℕ) (r : Result A Refusal) (x : Refusal) → outcome r ≡ n → r ≡ Err x → (number x ≡ n) × (eqb n 0 ≡ false)
refused_number n r x e q = let s : number x ≡ n = rw q at e in (s, rw (← s) (number_not_zero x))

pub no_refusal : {A : Type 0} {x : A} (n : ℕ) (r : Result A Refusal) → outcome r ≡ n → r ≡ Ok x → n ≡ 0
no_refusal n r e q = sym (rw q at e)

-- and of what is given: a list that tests refused stays as it was, and one that was filled is given
module _ {A B : Type 0} (n : ℕ) (v old : A) (r : Result B Refusal) (e : outcome r ≡ n) where
  pub gives_refused : (x : Refusal) → r ≡ Err x → Gives n v old (number x) old
  gives_refused x q = let (s, t) = refused_number n r x e q in record { answers = s; lent_is = unless_refused n v old t }

  pub gives_done : {x : B} → r ≡ Ok x → (now : A) → now ≡ v → Gives n v old 0 now
  gives_done q now h = let s = no_refusal n r e q in record { answers = sym s; lent_is = unless_done n v old now s h }
