-- What is said leaves nothing free: two answers of which a statement holds are the same, and so are the lists left behind. Press, Weigh, Open, Write,
-- Size, Signed and Levels are equations already; each other statement is its `-as` at a number x, those of Length, Worn and Symbol at a test.
-- Main: test_settled, mend_settled, mend_dead_settled, pull_settled, read_settled, said_once, length_settled, worn_settled, wear_settled, symbol_settled,
-- symbols_settled, receive_settled.
use Rattle.std.specs.Prelude.{◌≡◌, Bool, List, map, ℤ}
use Rattle.std.proofs.Math.Path.{refl, sym, ap}
use Rattle.std.proofs.Common.{◌∙◌, inl, inr}
use Rattle.std.proofs.Math.Bool.{true, false}
use Rattle.std.proofs.Math.Option.{Option, none, some}
use Prim.Native.Nat.{ℕ, zero, suc, ◌≤◌, ◌<◌}
use Rattle.std.proofs.Math.Decide.{ℕ_discrete}
use native.Mathlib.Omega.{arith}
use Rattle.refusal.specs.Replies.{Reply, replied, refused_with}
use Rattle.rank.specs.declared.Weight.{Weight}
use Rattle.levels.specs.Levels.{symbol_of}
use Rattle.levels.specs.Balanced.{symbol_signed, levels_back}
use Rattle.levels.specs.Received.{sent_once}
use Rattle.book.specs.Layout.{card}
use Rattle.book.specs.Reading.{CardValue, no_value}
use Rattle.wear.specs.declared.runs.Run.{Run}
use Rattle.demands.specs.Demands.{TestAs, MendAs, Mended, Hopeless, MendDeadAs, MendedDead, HopelessDead, PullAs, Pulled, Missing}
use Rattle.demands.specs.Demands.{reading_refusal, ReadAs, ReadCard, ReadNear, ReadSays}
use Rattle.demands.specs.Demands.{Delays, no_cards, one_more, Hole, LengthSum, LengthHole, LengthAs, WornCard, WornAs}
use Rattle.demands.specs.Demands.{WorstRun, WearAs}
use Rattle.demands.specs.Demands.{SymbolAs, SymbolsAs, ReceiveAs}

module _ (k : ℕ) (c t : List ℕ) (r s : ℕ) (y z : List ℕ) where
  pub test_settled : (x : ℕ) → TestAs x k c r t y → TestAs x k c s t z → (r ≡ s) × (y ≡ z)
  unfolding TestAs
  test_settled zero (a, (mu, m, e)) (b, (nu, n, f)) = let same = m.alone nu n.is in ((cc), (cc))
  test_settled (suc x) a b = ((cc), (cc))

module _ (k : ℕ) (c w m : List ℕ) (r s : Reply Weight) (v u n o : List ℕ) where
  pub mend_settled : (x : ℕ) → MendAs x k c r w v m n → MendAs x k c s w u m o → (r ≡ s) × (v ≡ u) × (n ≡ o)
  unfolding MendAs Mended Hopeless
  mend_settled zero (inl a) (inl b) = let same = a.0.1 o b.0.0 in ((cc), (cc), (cc))
  mend_settled zero (inl a) (inr b) = absurd (b.0 n a.0.0)
  mend_settled zero (inr a) (inl b) = absurd (a.0 o b.0.0)
  mend_settled zero (inr a) (inr b) = ((cc), (cc), (cc))
  mend_settled (suc x) a b = ((cc), (cc), (cc))

module _ (k : ℕ) (c : List ℕ) (ρ σ : ℕ) (w m : List ℕ) (r s : Reply ℕ) (v u n o : List ℕ) where
  pub mend_dead_settled : (x : ℕ) → MendDeadAs x k c ρ σ r w v m n → MendDeadAs x k c ρ σ s w u m o → (r ≡ s) × (v ≡ u) × (n ≡ o)
  unfolding MendDeadAs MendedDead HopelessDead
  mend_dead_settled zero (inl a) (inl b) = let same = a.0.1 o b.0.0 in ((cc), (cc), (cc))
  mend_dead_settled zero (inl a) (inr b) = absurd (b.0 n a.0.0)
  mend_dead_settled zero (inr a) (inl b) = absurd (a.0 o b.0.0)
  mend_dead_settled zero (inr a) (inr b) = ((cc), (cc), (cc))
  mend_dead_settled (suc x) a b = ((cc), (cc), (cc))

module _ (bs : List ℕ) (t r s : ℕ) (p q : List ℕ) where
  pub pull_settled : (x : ℕ) → PullAs x bs t r p → PullAs x bs t s q → (r ≡ s) × (p ≡ q)
  unfolding PullAs Pulled Missing
  pull_settled zero (inl (a, _, (e, h, alone, b))) (inl (d, _, (f, l, _, g))) = let same = alone f l in ((cc), (cc))
  pull_settled zero (inl (_, _, (e, h, _, _))) (inr b) = absurd (b.2 e h)
  pull_settled zero (inr a) (inl (_, _, (f, l, _, _))) = absurd (a.2 f l)
  pull_settled zero (inr a) (inr b) = ((cc), (cc))
  pull_settled (suc x) a b = ((cc), (cc))

module _ (c : List ℕ) (r s : Reply CardValue) where
  pub read_settled : (x : ℕ) → ReadAs x c r → ReadAs x c s → r ≡ s
  unfolding ReadAs ReadCard ReadNear
  read_settled zero (inl (m, a)) (inl (n, b)) = let same = a.0.1 n b.0.0 in cc
  read_settled zero (inl (m, a)) (inr b) = absurd (b.0 m a.0.0)
  read_settled zero (inr a) (inl (n, b)) = absurd (a.0 n b.0.0)
  read_settled zero (inr a) (inr b) = cc
  read_settled (suc x) a b = cc

module _ (bs : List ℕ) where
  -- what is said of a card
  pub said_once : (n : ℕ) (r s : Reply CardValue) → ReadSays bs n r → ReadSays bs n s → r ≡ s
  unfolding ReadSays
  said_once n r s = read_settled (card bs n) r s (reading_refusal bs n)

  delays_settled : {k d e : ℕ} → Delays bs k d → Delays bs k e → d ≡ e
  delays_settled no_cards no_cards = refl
  delays_settled (one_more k d v a h) (one_more _ e w b l) =
      let same = ap (λ (t : Reply CardValue). t.value.strike.delay) (said_once (suc k) (replied v) (replied w) h l) in
      let rest = delays_settled a b in
      cc

  -- where delays add up no card is refused
  no_hole : {k d : ℕ} → Delays bs k d → (n x : ℕ) → n ≤ k → Hole bs n x → ⊥
  unfolding Hole
  no_hole no_cards n x l h = omega (arith, h.0)
  no_hole (one_more k d v a r) n x l h =
      elim (ℕ_discrete n (suc k)) [
        | yes e ↦
            let s = said_once (suc k) (replied v) (refused_with no_value x) r (rw e at h.3) in
            let z : 0 ≡ x = ap (λ (t : Reply CardValue). t.refusal) s in
            omega (arith, h.2)
        | no f ↦ no_hole a n x (omega arith) h
      ]

  pub length_settled : (r s : Reply ℕ) (good : Bool) → LengthAs good bs r → LengthAs good bs s → r ≡ s
  unfolding LengthAs LengthSum LengthHole Hole
  length_settled r s true (inl (d, a, p)) (inl (e, b, q)) = let same = delays_settled a b in cc
  length_settled r s true (inl (d, a, p)) (inr (n, (x, h, _, _))) = absurd (no_hole a n x h.1 h)
  length_settled r s true (inr (n, (x, h, _, _))) (inl (d, a, p)) = absurd (no_hole a n x h.1 h)
  length_settled r s true (inr (m, (x, h, f, p))) (inr (n, (y, l, g, q))) =
      let u : m < n → ⊥ = λ o. g m x o h in
      let v : n < m → ⊥ = λ o. f n y o l in
      let same : m ≡ n = omega arith in
      let said = said_once n (refused_with no_value x) (refused_with no_value y) (rw same at h.3) l.3 in
      let z : x ≡ y = ap (λ (t : Reply CardValue). t.refusal) said in
      cc
  length_settled r s false a b = cc

  card_settled : (o p : Option ℕ) → WornCard bs o → WornCard bs p → o ≡ p
  unfolding WornCard
  card_settled none none a b = refl
  card_settled none (some n) a b = absurd (a n b.0)
  card_settled (some m) none a b = absurd (b m a.0)
  card_settled (some m) (some n) a b =
      let l : m < n → ⊥ = λ h. b.1 m h a.0 in
      let r : n < m → ⊥ = λ h. a.1 n h b.0 in
      let same : m ≡ n = omega arith in
      ap some same

  pub worn_settled : (r s : Reply (Option ℕ)) (good : Bool) → WornAs good bs r → WornAs good bs s → r ≡ s
  unfolding WornAs
  worn_settled r s true a b = let same = card_settled r.value s.value a.1 b.1 in λ i. record { refusal = (a.0 ∙ sym b.0) i; value = same i }
  worn_settled r s false a b = cc

-- WEAR
module _ (bs : List ℕ) (w : ℕ) where
  worst_settled : (m s n t : ℕ) → WorstRun bs w m s → WorstRun bs w n t → (m ≡ n) × (s ≡ t)
  unfolding WorstRun
  worst_settled m s n t a b =
      let p = a.1 n t b.0 in
      let q = b.1 m s a.0 in
      let l : m < n → ⊥ = λ h. omega (arith, b.2 m s h a.0) in
      let r : n < m → ⊥ = λ h. omega (arith, a.2 n t h b.0) in
      (omega arith, omega arith)

  pub wear_settled : (r s : Reply Run) (x : ℕ) → WearAs x bs w r → WearAs x bs w s → r ≡ s
  unfolding WearAs
  wear_settled r s zero a b =
      let (f, v) = worst_settled _ _ _ _ a.1 b.1 in
      λ i. record { refusal = (a.0 ∙ sym b.0) i; value = record { sum = v i; first = f i } }
  wear_settled r s (suc x) a b = cc

-- ON THE CABLE
module _ (n : ℤ) (r s : Reply ℕ) where
  pub symbol_settled : (out : Bool) → SymbolAs out n r → SymbolAs out n s → r ≡ s
  unfolding SymbolAs
  symbol_settled true a b = cc
  symbol_settled false (v, h, p, e) (w, l, q, f) =
      let same : v ≡ w = sym (symbol_signed v h) ∙ ap symbol_of (p ∙ sym q) ∙ symbol_signed w l in
      cc

module _ (c : List ℕ) (r s : ℕ) (d e : List ℕ) where
  pub symbols_settled : (ns : List ℤ) (x : ℕ) → SymbolsAs x ns r c d → SymbolsAs x ns s c e → (r ≡ s) × (d ≡ e)
  unfolding SymbolsAs
  symbols_settled ns zero (a, p, h) (b, q, l) =
      (a ∙ sym b, sym (levels_back d p) ∙ ap (map symbol_of) (h ∙ sym l) ∙ levels_back e q)
  symbols_settled ns (suc x) a b = ((cc), (cc))

  pub receive_settled : (samples : List ℤ) (x : ℕ) → ReceiveAs x samples r c d → ReceiveAs x samples s c e → (r ≡ s) × (d ≡ e)
  unfolding ReceiveAs
  receive_settled samples zero (a, p, h) (b, q, l) = (a ∙ sym b, sent_once samples d e p q h l)
  receive_settled samples (suc x) a b = ((cc), (cc))
