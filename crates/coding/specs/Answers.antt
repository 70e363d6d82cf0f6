-- What answers a question about messages: a message of which P holds, and none only if it holds of none. Messages that are proposed and then
-- checked are an answer as soon as all of which P holds are among them.
-- Main: Checks, test_checks, Answers, proposal_answers, tested_answers, first-answers, proposals_answer, one_answer, same_answer.
use Rattle.std.specs.Prelude.{◌≡◌, refl, Bool, true, false, cond, List, ℕ, ◌<◌}
use Rattle.std.proofs.Common.{sym, ap}
use Rattle.std.proofs.Math.Option.{Option, none, some}
use Rattle.coding.specs.Options.{first_of, Good, good_if, good_first, Got, got_if, got_first}

-- A CHECK for P: it gives a message back exactly if P holds of it
pub record Checks (P : List ℕ → Type 0) (check : List ℕ → Option (List ℕ)) : Type 0 where
  pub good : (m : List ℕ) → Good P (check m)
  pub got : (m : List ℕ) → P m → Got (check m)

-- as a test does that tells P
pub test_checks : (P : List ℕ → Type 0) (test : List ℕ → Bool) → ((m : List ℕ) → test m ≡ true → P m) → ((m : List ℕ) → P m → test m ≡ true)
    → Checks P (λ m. cond (test m) (some m) none)
test_checks P test sound complete = record { good = λ m. go m (test m) refl; got = λ m h. rw (complete m h) tt }
  where
    go : (m : List ℕ) (b : Bool) → test m ≡ b → Good P (cond b (some m) none)
    go m true e = sound m e
    go m false e = tt

-- AN ANSWER
pub record Answers (P : List ℕ → Type 0) (o : Option (List ℕ)) : Type 0 where
  pub right : Good P o
  pub all : (m : List ℕ) → P m → Got o

module _ {P : List ℕ → Type 0} where
  module _ {check : List ℕ → Option (List ℕ)} (C : Checks P check) where
    -- one proposal checked is an answer, if it is every message of which P holds
    pub proposal_answers : (m : List ℕ) → ((w : List ℕ) → P w → m ≡ w) → Answers P (check m)
    proposal_answers m h = record { right = C.good m; all = λ w p. rw (h w p) (C.got w p) }

    -- and so is one that is tested first, if these pass the test
    pub tested_answers : (m : List ℕ) (test : Bool) → ((w : List ℕ) → P w → (test ≡ true) × (m ≡ w)) → Answers P (cond test (check m) none)
    tested_answers m test h = record {
      right = good_if P (check m) test (C.good m);
      all = λ w p. let (t, e) = h w p in got_if (check m) test t (rw e (C.got w p));
    }

    -- as for n proposals, each tested first, if every message of which P holds is the one for its own number
    pub proposals_answer : (n : ℕ) (test : ℕ → Bool) (proposal : ℕ → List ℕ) (number : List ℕ → ℕ)
        → ((w : List ℕ) → P w → (number w < n) × (test (number w) ≡ true) × (proposal (number w) ≡ w))
        → Answers P (first_of n (λ a. cond (test a) (check (proposal a)) none))
    proposals_answer n test proposal number h = record {
      right = good_first P n _ (λ a. good_if P (check (proposal a)) (test a) (C.good (proposal a)));
      all = λ w p. let (l, t, e) = h w p in got_first n (number w) _ l (got_if (check (proposal (number w))) (test (number w)) t (rw e (C.got w p)));
    }

  -- WHAT AN ANSWER SAYS
  pub answer_holds : {m : List ℕ} {o : Option (List ℕ)} → Answers P o → o ≡ some m → P m
  answer_holds a e = rw e at a.right

  pub answer_none : {o : Option (List ℕ)} → Answers P o → o ≡ none → (m : List ℕ) → P m → ⊥
  answer_none a e m h = rw e at (a.all m h)

  pub none_answer : {o : Option (List ℕ)} → Answers P o → ((m : List ℕ) → P m → ⊥) → o ≡ none
  none_answer {o = none} a h = refl
  none_answer {o = some m} a h = absurd (h m a.right)

  -- ONE ANSWER ONLY, if P holds of at most one message
  module _ (one : (m w : List ℕ) → P m → P w → m ≡ w) where
    pub one_answer : {m : List ℕ} {o : Option (List ℕ)} → Answers P o → P m → o ≡ some m
    one_answer {m} {o = none} a h = absurd (a.all m h)
    one_answer {m} {o = some w} a h = ap some (one w m a.right h)

    pub same_answer : (o p : Option (List ℕ)) → Answers P o → Answers P p → o ≡ p
    same_answer none p a b = sym (none_answer b (answer_none a refl))
    same_answer (some m) p a b = sym (one_answer b a.right)
