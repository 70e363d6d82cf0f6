-- What is known of an input that was read: its bytes lie within the buffer.
-- Main: Within, Reaches, bytes_within, bytes_reach.
use Rattle.std.specs.Prelude.{◌≡◌, List, ℕ, ◌≤◌, length, Option, Some, unwrap_or}

-- how many bytes were read, if the read did not fail: at most as many as the buffer has
abbrev pub Within : Option ℕ → (buffer : List ℕ) → Type 0
Within r bs = unwrap_or r 0 ≤ length bs

-- and at least as many as before
abbrev pub Reaches : (before : ℕ) → Option ℕ → (buffer : List ℕ) → Type 0
Reaches a r bs = (a ≤ unwrap_or r a) × (unwrap_or r a ≤ length bs)

module _ (r : Option ℕ) (n : ℕ) (e : r ≡ Some n) (bs : List ℕ) where
  pub bytes_within : Within r bs → n ≤ length bs
  bytes_within h = rw e at h

  pub bytes_reach : (a : ℕ) → Reaches a r bs → (a ≤ n) × (n ≤ length bs)
  bytes_reach a h = rw e at h
