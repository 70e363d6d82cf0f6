-- What is demanded of levels on the cable, from the contracts of the operations, proved.
-- Main: cable_says, signed_says, symbol_says, levels_says, symbols_says, receive_says, mends_sent.
use Rattle.std.specs.Prelude.{◌≡◌, Bool, true, length, ℤ, pos, Result}
use Rattle.refusal.specs.declared.Refusal.{Refusal}
use Rattle.rank.specs.declared.Weight.{Weight}
use Rattle.std.proofs.Math.Path.{refl, sym, subst}
use Rattle.std.proofs.Common.{◌∙◌, arith}
use Rattle.std.proofs.Math.Bool.{false}
use mathlib.Core.List.{List, map}
use Prim.Native.Nat.{ℕ, zero, suc}
use borrow.Author.Tests.{eq-eqb, ne_eqb}
use Rattle.algebra.specs.Tests.{any}
use Rattle.refusal.specs.Replies.{reply, reply_with, unless, unless_done, Gives}
use Rattle.rank.specs.Weight.{weight_reply}
use Rattle.levels.specs.Levels.{signed_of, outside, symbol_of, received}
use Rattle.levels.specs.Balanced.{examples, symbol_signed, signed_symbol, symbol_range, signed_negative, levels_inside, symbols_back, symbols_card}
use Rattle.levels.specs.Received.{received_is_card, received_sent, received_card}
use Rattle.codec.specs.Operations.{tests}
use Rattle.codec.specs.Refusals.{lists_passed}
use Rattle.decoder.specs.Decoding.{Decoded}
use Rattle.cable.specs.Operations.{signed_reply, signed_refusal, symbol_refusal, levels_refusal, symbols_refusal, receive_refusal}
use Rattle.demands.specs.Demands.{CableSays, SignedSays, SymbolAs, SymbolSays, six_refusal, LevelsSays, SymbolsAs, SymbolsSays}
use Rattle.demands.specs.Demands.{ReceiveAs, ReceiveSays, MendSays, MendsSent}
use Rattle.demands.proofs.CardDemands.{mend_says}

pub cable_says : CableSays
cable_says = record {
  examples = examples;
  inside = levels_inside;
  back = symbol_signed;
  forth = signed_symbol;
  negative = signed_negative;
  arrives = λ c card s sent. received_card s c card sent;
}

-- ONE SYMBOL, ONE NUMBER
pub signed_says : (v : ℕ) (r : Result ℤ Refusal) → signed_reply r ≡ reply_with (pos 0) (signed_refusal v) (signed_of v) → SignedSays v (signed_reply r)
unfolding SignedSays signed_refusal
signed_says v r e = e

pub symbol_says : (n : ℤ) (r : Result ℕ Refusal) → reply r ≡ reply_with 0 (symbol_refusal n) (symbol_of n) → SymbolSays n (reply r)
unfolding SymbolSays SymbolAs symbol_refusal reply_with
symbol_says n r e = go (outside n) refl
  where
    go : (out : Bool) → outside n ≡ out → SymbolAs out n (reply r)
    go true q = rw q at e
    go false q = (symbol_of n, omega (arith, symbol_range n), signed_symbol n q, rw q at e)

-- LEVELS
pub levels_says : (c : List ℕ) (ns : List ℤ) (r : ℕ) (m : List ℤ) → Gives (levels_refusal c (length ns)) (map signed_of c) ns r m → LevelsSays c r ns m
unfolding LevelsSays six_refusal levels_refusal tests unless
levels_says c ns r m d = (d.answers, d.lent_is)

-- SYMBOLS
module _ (ns : List ℤ) (c : List ℕ) (r : ℕ) (e : List ℕ) (d : Gives (symbols_refusal ns (length c)) (map symbol_of ns) c r e) where
  symbols_as : (x : ℕ) → symbols_refusal ns (length c) ≡ x → SymbolsAs x ns r c e
  unfolding SymbolsAs symbols_refusal unless
  symbols_as zero q =
      let (six, _, inside) = lists_passed (length ns) 6 (length c) 6 (any outside ns) q in
      rw (d.answers, d.lent_is, q) (refl, symbols_card ns six, symbols_back ns inside)
  symbols_as (suc x) q = rw (d.answers, d.lent_is, q, ne_eqb (suc x) 0 (λ z. omega arith)) (refl, refl)

  pub symbols_says : SymbolsSays ns r c e
  unfolding SymbolsSays six_refusal symbols_refusal tests
  symbols_says = symbols_as _ refl

-- RECEIVE
module _ (s : List ℤ) (c : List ℕ) (r : ℕ) (e : List ℕ) (d : Gives (receive_refusal s (length c)) (received s) c r e) where
  receive_as : (x : ℕ) → receive_refusal s (length c) ≡ x → ReceiveAs x s r c e
  unfolding ReceiveAs receive_refusal unless
  receive_as zero q =
      let (long, _, _) = lists_passed (length s) 36 (length c) 6 false q in
      rw (d.answers, d.lent_is, q) (refl, received_is_card s, received_sent s long)
  receive_as (suc x) q = rw (d.answers, d.lent_is, q, ne_eqb (suc x) 0 (λ z. omega arith)) (refl, refl)

  pub receive_says : ReceiveSays s r c e
  unfolding ReceiveSays receive_refusal tests
  receive_says = receive_as _ refl

-- MEND FROM THE CABLE: what was received is the card that was sent
module _ (k : ℕ) (s : List ℤ) (c w m : List ℕ) (x : ℕ) (e : List ℕ) (r : Result Weight Refusal) (v n : List ℕ)
    (g : Gives (receive_refusal s (length c)) (received s) c x e) (d : Decoded k e w m r v n) where
  pub mends_sent : MendsSent k s (length c) (weight_reply r) w v m n
  unfolding MendsSent receive_refusal tests
  mends_sent card is sent room =
      let none : receive_refusal s (length c) ≡ 0 = rw (eq-eqb (length s) 36 sent.long, eq-eqb (length c) 6 room) refl in
      let same : e ≡ card = g.lent_is ∙ sym (unless_done _ (received s) c (received s) none refl) ∙ received_card s card is sent in
      subst (λ (l : List ℕ). MendSays k l (weight_reply r) w v m n) same (mend_says d)
