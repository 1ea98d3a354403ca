-- What bytes that say an item are. A trait's law may cite definitions alone, so this proof stands among them.
use Rattle.std.specs.Prelude.{ℕ, List}
use Rattle.rd_event.specs.Items.{Says}
use Rattle.rd_event.specs.declared.items.Line.{Line}
use Rattle.rd_event.specs.declared.items.Line.TheVariants.{Skip, Header, Thread, Object, Event}
use Rattle.rd_rewriting.specs.Keeping.{Spells}

-- they are its spelling, where it isn't skipped
pub spelled : (version : ℕ) (bytes : List ℕ) (item : Line) → Says version bytes item → Spells bytes item
spelled version bytes Skip says = λ is. cc
spelled version bytes (Header number) says = λ is. says
spelled version bytes (Thread thread) says = λ is. says
spelled version bytes (Object name kind) says = λ is. says
spelled version bytes (Event event) says = λ is. says.1
