use Rattle.sk_records.specs.Kinds.{kind_place}
use Rattle.sk_records.proofs.inserting.+nearest.Given as goal

abbrev pub decreases-nearest : goal.decreases-nearest
decreases-nearest l = kind_place l.kind
