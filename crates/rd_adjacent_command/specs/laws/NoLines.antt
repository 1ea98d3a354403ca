-- No line was taken. A trait's law may cite definitions alone, so this proof stands among them.
use Rattle.std.specs.Prelude.{List, []}
use Rattle.std.proofs.Common.{refl}
use Rattle.rd_adjacent_command.specs.Adjoining.{AdjoiningBegins, AdjoiningLeads}
use Rattle.rd_adjacent_command.specs.declared.adjoining.Adjoining.{Adjoining}
use Rattle.rd_ecl.specs.Kinds.{Kind}

-- nothing is kept of no lines
pub adjoining_none : (kinds : List Kind) (start : Adjoining) → AdjoiningBegins kinds start → AdjoiningLeads kinds start [] start
adjoining_none kinds start begins = record {
  order = begins.order;
  first = refl;
  second = refl;
  keeps = record {
    follow = tt;
    roots = begins.nothing.no_root;
    objects = begins.nothing.no_object;
    texts = begins.nothing.no_text;
  };
  events = begins.no_event;
  lines = begins.no_line;
}
