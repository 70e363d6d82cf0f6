-- What a negated test tells of what was tested.
-- Main: was_false, was_true.
use Rattle.std.specs.Prelude.{◌≡◌, Bool, true, false, not}
use Rattle.std.proofs.Common.{sym, ◌∙◌}
use Rattle.std.proofs.lemmas.Bool.{not-true, not-false}

pub was_false : {t x : Bool} → t ≡ x → not t ≡ true → x ≡ false
was_false {t} e h = sym e ∙ not-true t h

pub was_true : {t x : Bool} → t ≡ x → not t ≡ false → x ≡ true
was_true {t} e h = sym e ∙ not-false t h
