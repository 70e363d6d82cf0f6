-- `codec::spectra::spectrum` meets its contract: the tables are those of the spectrum, computed, and what they add up to is the spectrum.
use Rattle.std.proofs.Common.{refl, ap, ◌∙◌}
use Rattle.transform.specs.Packed.{symbols_of}
use Rattle.transform.specs.Counts.{added_six}
use Rattle.transform.specs.Transforms.{spectrum_map, computing_spectrum, spectrum_mapped}
use Rattle.codec.proofs.spectra.spectrum.Goals as goal

pub returns : goal.returns
unfolding computing_spectrum
returns c = c.linear.ensures ∙ ap symbols_of (added_six spectrum_map _ c.args.card refl) ∙ spectrum_mapped c.args.card
