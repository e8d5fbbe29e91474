use Rattle.sk_face.proofs.RightAngles.{side-law}
use Rattle.sk_face.proofs.laws.side_law.Goals as goal

pub returns : goal.returns
returns c = side-law
