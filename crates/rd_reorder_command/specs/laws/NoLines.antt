-- No line was taken. A trait's law may cite definitions alone, so this proof stands among them.
use Rattle.std.specs.Prelude.{List, []}
use Rattle.std.proofs.Common.{refl}
use Rattle.rd_ecl.specs.Kinds.{Kind}
use Rattle.rd_reorder_command.specs.Reordering.{ReorderingBegins, ReorderingLeads}
use Rattle.rd_reorder_command.specs.declared.reordering.Reordering.{Reordering}

-- nothing is kept of no lines
pub leads_none : (kinds : List Kind) (start : Reordering) → ReorderingBegins kinds start → ReorderingLeads kinds start [] start
leads_none kinds start begins = record {
  number = refl;
  keeps = record {
    follow = tt;
    roots = begins.nothing.no_root;
    objects = begins.nothing.no_object;
    texts = begins.nothing.no_text;
  };
  events = begins.no_event;
}
