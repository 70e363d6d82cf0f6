-- Pull leads to each tune of an accepted book, and to nothing else.
-- Main: pulls_each, pulls_only, found_there, refused_empty, empty_refused, refused_from, pulled_good.
use Rattle.std.specs.Prelude.{◌≡◌, refl, true, List, [], ℕ, ◌<◌, length}
use Rattle.std.proofs.Common.{sym, ◌∙◌, ap, arith, eqb-true, eq-eqb, ne_eqb}
use Rattle.std.proofs.Math.Option.{Option, none, some}
use Rattle.std.proofs.Math.Decide.{ℕ_discrete}
use Rattle.algebra.specs.Search.{or_zero}
use Rattle.refusal.specs.Replies.{number, reply_value, reply_refused}
use Rattle.refusal.specs.declared.Refusal.TheVariants.{NoSuchTune}
use Rattle.book.specs.Layout.{tunes, tune_number, part_of, body_good}
use Rattle.book.specs.Open.{open_refusal}
use Rattle.book.specs.Pull.{bears, entry_of, missing, part_at, pull_refusal, pulled, offset_at, pulled_from}
use Rattle.book.specs.ContentsLoops.{entry_first}
use Rattle.book.specs.Accepted.{Accepted}
use Rattle.book.proofs.Accepted.{entries_within, numbers_rise, part_some, part_good}
use Rattle.book.specs.Pulled.{There}

-- AS OPEN, THEN BY THE ENTRY
pub pull_accepted : (bs : List ℕ) (t : ℕ) → Accepted bs → pull_refusal bs t ≡ missing (entry_of bs t)
unfolding pull_refusal
pull_accepted bs t a = rw (eq-eqb (open_refusal bs) 0 a)

pub pull_refused : (bs : List ℕ) (t : ℕ) → (Accepted bs → ⊥) → pull_refusal bs t ≡ open_refusal bs
unfolding pull_refusal
pull_refused bs t n = rw (ne_eqb (open_refusal bs) 0 n)

pub pulled_accepted : (bs : List ℕ) (t : ℕ) → Accepted bs → pulled bs t ≡ part_at bs (entry_of bs t)
unfolding pulled
pulled_accepted bs t a = rw (eq-eqb (open_refusal bs) 0 a)

pub pulled_from_accepted : (bs : List ℕ) (t : ℕ) → Accepted bs → pulled_from bs t ≡ offset_at bs (entry_of bs t)
unfolding pulled_from
pulled_from_accepted bs t a = rw (eq-eqb (open_refusal bs) 0 a)

pub pulled_from_refused : (bs : List ℕ) (t : ℕ) → (Accepted bs → ⊥) → pulled_from bs t ≡ 0
unfolding pulled_from
pulled_from_refused bs t n = rw (ne_eqb (open_refusal bs) 0 n)

pub pulled_refused : (bs : List ℕ) (t : ℕ) → (Accepted bs → ⊥) → pulled bs t ≡ []
unfolding pulled
pulled_refused bs t n = rw (ne_eqb (open_refusal bs) 0 n)

-- THE ENTRY. One that is found bears the number
pub entry_found : (bs : List ℕ) (t e : ℕ) → entry_of bs t ≡ some e → (e < tunes bs) × (tune_number bs e ≡ t)
unfolding bears
entry_found bs t e p = let f = (entry_first bs t e).0 p in (f.high, eqb-true (tune_number bs e) t f.passes)

-- one that bears the number is found: no other has it
pub entry_there : (bs : List ℕ) → Accepted bs → (e : ℕ) → e < tunes bs → entry_of bs (tune_number bs e) ≡ some e
unfolding bears
entry_there bs a e h =
    let t = tune_number bs e in
    (entry_first bs t e).1 (record {
      low = omega arith;
      high = h;
      passes = eq-eqb t t refl;
      before = λ i l b. ne_eqb (tune_number bs i) t (λ q. omega (arith, numbers_rise bs a i e b h));
    })

-- THE PLACE that is answered is that of the entry
pub entry_placed : (bs : List ℕ) (t : ℕ) → pull_refusal bs t ≡ 0 → entry_of bs t ≡ some (or_zero (entry_of bs t))
entry_placed bs t r = elim (ℕ_discrete (open_refusal bs) 0) [
  | yes a ↦ go (entry_of bs t) (sym (pull_accepted bs t a) ∙ r)
  | no n ↦ absurd (n (sym (pull_refused bs t n) ∙ r))
]
  where
    go : (o : Option ℕ) → missing o ≡ 0 → o ≡ some (or_zero o)
    go none z = absurd (omega (arith, z))
    go (some e) z = refl

pub ruleset pulling = (reply_value, reply_refused, pull_accepted, pull_refused)

-- EACH TUNE, AND NOTHING ELSE
pub pulls_each : (bs : List ℕ) → Accepted bs → (e : ℕ) → e < tunes bs
    → (pull_refusal bs (tune_number bs e) ≡ 0) × (pulled bs (tune_number bs e) ≡ part_of bs e)
pulls_each bs a e h =
    let t = tune_number bs e in
    (pull_accepted bs t a ∙ ap missing (entry_there bs a e h), pulled_accepted bs t a ∙ ap (part_at bs) (entry_there bs a e h))

-- either the tune is there, or Pull refuses and gives back nothing
data Pulls (bs : List ℕ) (t : ℕ) : Type 0 where
  there : pull_refusal bs t ≡ 0 → There bs t (or_zero (entry_of bs t)) → Pulls bs t
  refused : (pull_refusal bs t ≡ 0 → ⊥) → pulled bs t ≡ [] → pulled_from bs t ≡ 0 → Pulls bs t

pulls : (bs : List ℕ) (t : ℕ) → Pulls bs t
pulls bs t =
    elim (ℕ_discrete (open_refusal bs) 0) [
      | yes a ↦ go a (entry_of bs t) refl
      | no n ↦ refused (λ r. n (sym (pull_refused bs t n) ∙ r)) (pulled_refused bs t n) (pulled_from_refused bs t n)
    ]
  where
    go : Accepted bs → (o : Option ℕ) → entry_of bs t ≡ o → Pulls bs t
    go a none q =
        refused (λ r. let z : number NoSuchTune ≡ 0 = sym (pull_accepted bs t a ∙ ap missing q) ∙ r in omega arith)
        (pulled_accepted bs t a ∙ ap (part_at bs) q)
        (pulled_from_accepted bs t a ∙ ap (offset_at bs) q)
    go a (some e) q =
        let f = entry_found bs t e q in
        there (pull_accepted bs t a ∙ ap missing q) (rw q (record {
          held = (a, f.0);
          bears = f.1;
          part = pulled_accepted bs t a ∙ ap (part_at bs) q;
          begins = pulled_from_accepted bs t a ∙ ap (offset_at bs) q;
        }))

pub pulls_only : (bs : List ℕ) (t : ℕ) → pull_refusal bs t ≡ 0 → There bs t (or_zero (entry_of bs t))
pulls_only bs t r = elim (pulls bs t) [ there p h ↦ h | refused n e b ↦ absurd (n r) ]

pub found_there : (bs : List ℕ) (t e : ℕ) → pull_refusal bs t ≡ 0 → entry_of bs t ≡ some e → There bs t e
found_there bs t e r q = let h = pulls_only bs t r in rw q at h

-- the part is empty exactly on a refusal
pub refused_empty : (bs : List ℕ) (t : ℕ) → (pull_refusal bs t ≡ 0 → ⊥) → pulled bs t ≡ []
refused_empty bs t n = elim (pulls bs t) [ there p h ↦ absurd (n p) | refused m e b ↦ e ]

pub refused_from : (bs : List ℕ) (t : ℕ) → (pull_refusal bs t ≡ 0 → ⊥) → pulled_from bs t ≡ 0
refused_from bs t n = elim (pulls bs t) [ there p h ↦ absurd (n p) | refused m e b ↦ b ]

pub empty_refused : (bs : List ℕ) (t : ℕ) → pulled bs t ≡ [] → pull_refusal bs t ≡ 0 → ⊥
empty_refused bs t e r =
    let h = pulls_only bs t r in
    omega (arith, ap length (sym h.part ∙ e), part_some bs h.held.0 _ h.held.1)

-- what Pull gives back is a body that Read takes
pub pulled_good : (bs : List ℕ) (t : ℕ) → body_good (pulled bs t) ≡ true
unfolding body_good
pulled_good bs t =
    elim (pulls bs t) [ there p h ↦ rw h.part (part_good bs h.held.0 _ h.held.1) | refused n e b ↦ rw e ]
