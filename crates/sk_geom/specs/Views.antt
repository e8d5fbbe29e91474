-- What the code calls a source, as plain data.
use Rattle.std.specs.Prelude.{ℕ}
use Rattle.sk_geom.specs.Sources.{Source}
use Rattle.sk_geom.specs.declared.source.Source.{Source as CodeSource}

abbrev pub source_of : {s : ℕ} → CodeSource s → Source s
source_of o = record {
  entities = o.outline.now.entities;
  params = o.numbers.now.params;
  acts = o.numbers.now.acts;
  unknowns = o.unknowns.now;
  group = o.group;
}
