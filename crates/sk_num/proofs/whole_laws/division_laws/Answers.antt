use Rattle.sk_num.specs.Division.{floor_by-below, floor_by-above, floor_by-greatest, ceil_by-above, ceil_by-below, ceil_by-least, nearest_is, nearest_only}
use Rattle.sk_num.proofs.whole_laws.division_laws.Goals as goal

pub returns : goal.returns
returns c = record {
  down = floor_by-below;
  down_next = floor_by-above;
  down_greatest = floor_by-greatest;
  up = ceil_by-above;
  up_next = ceil_by-below;
  up_least = ceil_by-least;
  near = nearest_is;
  near_only = nearest_only;
}
