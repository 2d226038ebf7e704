-- n values of w bytes fit into the room exactly when n is at most the room divided by w.
use native.Mathlib.Omega.{arith}
use mathlib.Core.Path.{refl}
use Rattle.reading_values.proofs.ValueCases.{room_test}
use Rattle.reading_values.proofs.fits.Goals as goal

pub returns : goal.returns
returns c = room_test _ _ _ c.args.w refl (omega arith)
