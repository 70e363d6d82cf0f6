-- `tune_text::tunes::fill` meets its contract. The loop: of each list, what was written and what the lines that are left add is the whole.
use Rattle.std.proofs.Common.{◌≡◌, [], ◌∷◌, refl, ap, ◌∙◌, arith}
use Rattle.text.proofs.WritingLaws.{part_start, part_room, part_next, part_end}
use Rattle.tune_text.specs.Reading.{lines_said, gathered, numbers_of, strikes_of, counts_of}
use Rattle.tune_text.proofs.LineLaws.{neither_said}
use Rattle.tune_text.proofs.tunes.fill.Goals as goal

pub loop-line-init : goal.loop-line-init
loop-line-init c = (part_start _ _ (omega arith), part_start _ _ (omega arith), part_start _ _ (omega arith))

pub push-requires : goal.push-requires
unfolding gathered
push-requires c =
    let e = ap numbers_of (rw c.in-Tune.is at c.in-Some.ensures.steps) in
    part_room c.loop-line.invariant.0 (c.in-Tune.number ∷ []) _ e c.requires.numbers_room

pub push-requires-in-Tune : goal.push-requires-in-Tune
unfolding counts_of
push-requires-in-Tune c =
    let e = rw (← c.cards_ahead.ensures) at (ap counts_of (rw c.in-Tune.is at c.in-Some.ensures.steps)) in
    part_room c.loop-line.invariant.1 (c.cards_ahead.result ∷ []) _ e c.requires.counts_room

pub extend_from_slice-requires : goal.extend_from_slice-requires
unfolding gathered
extend_from_slice-requires c =
    let s = c.in-Strike.strike in
    let e = ap strikes_of (rw c.in-Strike.is at c.in-Some.ensures.steps) in
    part_room c.loop-line.invariant.2 (s.bell ∷ s.force ∷ s.delay ∷ []) _ e c.requires.strikes_room

pub loop-line-preserved-in-Tune : goal.loop-line-preserved-in-Tune
unfolding gathered counts_of
loop-line-preserved-in-Tune c =
    let s = rw c.in-Tune.is at c.in-Some.ensures.steps in
    let p = c.loop-line.invariant in (
      part_next p.0 _ _ (ap numbers_of s) c.push.ensures,
      part_next p.1 _ _ (rw (← c.cards_ahead.ensures) at (ap counts_of s)) c.push-in-Tune.ensures,
      rw (ap strikes_of s) at p.2,
    )

pub loop-line-preserved-in-Strike : goal.loop-line-preserved-in-Strike
unfolding gathered counts_of
loop-line-preserved-in-Strike c =
    let s = rw c.in-Strike.is at c.in-Some.ensures.steps in
    let p = c.loop-line.invariant in (
      rw (ap numbers_of s) at p.0,
      rw (ap counts_of s) at p.1,
      part_next p.2 _ _ (ap strikes_of s) c.extend_from_slice.ensures,
    )

pub loop-line-preserved : goal.loop-line-preserved
unfolding gathered counts_of
loop-line-preserved c =
    let s = c.in-Some.ensures.steps in
    let p = c.loop-line.invariant in
    let ls = lines_said c.next.new.self.text.now in
    let h = c.in-Nothing.is in (
      rw (ap numbers_of s ∙ neither_said (λ l. numbers_of (l ∷ ls) ≡ numbers_of ls) h refl (λ f. refl)) at p.0,
      rw (ap counts_of s ∙ neither_said (λ l. counts_of (l ∷ ls) ≡ counts_of ls) h refl (λ f. refl)) at p.1,
      rw (ap strikes_of s ∙ neither_said (λ l. strikes_of (l ∷ ls) ≡ strikes_of ls) h refl (λ f. refl)) at p.2,
    )

pub returns : goal.returns
unfolding gathered counts_of
returns c =
    let s = c.in_default.ensures.steps.0 in
    let p = c.loop-line.invariant in
    record { numbers_wrote = part_end p.0 (ap numbers_of s); counts_wrote = part_end p.1 (ap counts_of s); strikes_wrote = part_end p.2 (ap strikes_of s) }
