use Rattle.sk_copy.proofs.Rising.{wanted_rises}
use Rattle.sk_copy.proofs.law_wanted.Goals as goal

pub returns : goal.returns
returns c = record { rise = λ g es few r h. wanted_rises g es few r h }
