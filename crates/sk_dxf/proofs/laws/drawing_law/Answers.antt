use Rattle.sk_dxf.specs.Plane.{drawing_plane, plane_numbers}
use Rattle.sk_dxf.specs.Drawing.{group_drawing}
use Rattle.sk_dxf.proofs.DrawnLemmas.{drawing_of}
use Rattle.sk_dxf.proofs.laws.drawing_law.Goals as goal

pub returns : goal.returns
unfolding group_drawing
returns c = λ s es acts group active rise. drawing_of (plane_numbers acts (drawing_plane es active)) acts group es rise
