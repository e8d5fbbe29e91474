-- How long a kept point is.
use Rattle.std.proofs.Common.{◌≡◌, List, length, Option, Some, None, refl}
use Rattle.std.specs.Prelude.{ℤ}
use Rattle.sk_geom.specs.declared.fault.FrameFault.{FrameFault}
use Rattle.sk_krawczyk.specs.IntervalTest.{Outcome}
use Rattle.sk_solve.specs.Search.{search}
use Rattle.sk_solve.specs.Searched.{search_law}
use Rattle.sk_regen.specs.Regeneration.{unless_bad}

pub found-long : (bad : Option FrameFault) (x : List ℤ) (visit : List ℤ → Outcome) → length (unless_bad bad x (search visit x)).point ≡ length x
found-long None x visit = search_law.length visit x
found-long (Some e) x visit = refl
