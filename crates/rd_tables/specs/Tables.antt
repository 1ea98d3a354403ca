-- What the tables of a roster hold of locks and methods: this project's profile.
use Rattle.std.specs.Prelude.{ℕ, ◌==◌, Bool, nat_lt, ◌&&◌, not, if◌then◌else◌, List, map, Option, Some, None}
use Rattle.rd_ecl.specs.Kinds.{Kind, KindMethod, method_names, kind_slots_at}
use Rattle.rd_rules.specs.MayFollow.{is_among, place}
use Rattle.rd_tables.specs.declared.locks.Lock.{Lock}
use Rattle.rd_tables.specs.declared.methods.FoundMethod.{FoundMethod}
use Rattle.rd_tables.specs.declared.methods.Methods.{Methods}

-- ---- locks

-- a lock that no thread has
abbrev pub free_lock : Lock
free_lock = record { holder = 0; depth = 0 }

-- how often the thread with this number has acquired the lock and not released it
abbrev pub depth_of : Lock → ℕ → ℕ
depth_of lock thread = if thread == lock.holder then lock.depth else 0

-- the thread that has the lock, if it is another one than that with this number
abbrev pub other_holder : Lock → ℕ → Option ℕ
other_holder lock thread = if nat_lt 0 lock.depth && not (thread == lock.holder) then Some lock.holder else None

-- a second thread has the lock, and it is another one than the first
abbrev pub is_other_holder : Lock → ℕ → ℕ → Bool
is_other_holder lock thread other = not (thread == other) && not (depth_of lock other == 0)

-- ---- methods

-- the methods that a roster's table says, and the kind that an entry of its kinds says
abbrev pub method_entry : List ℕ × ℕ → KindMethod
method_entry entry = record { name = entry.0; slots = entry.1 }

abbrev pub methods_in : Methods → List KindMethod
methods_in methods = map method_entry methods.slots.entries

abbrev pub kind_entry : List ℕ × Methods → Kind
kind_entry entry = record { name = entry.0; methods = methods_in entry.1 }

-- the method of that name: its number, and how many slots it has; the next number and none where there is no such method
abbrev pub found_method : List KindMethod → List ℕ → FoundMethod
found_method methods name = record {
  number = place (method_names methods) name;
  unknown = not (is_among (method_names methods) name);
  slots = kind_slots_at methods (place (method_names methods) name);
}
