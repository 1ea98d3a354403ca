-- The rules that a line breaks: this project's profile.
use Rattle.std.specs.Prelude.{◌==◌, Bool, false, None}
use Rattle.rd_base.specs.declared.limits.LimitName.TheVariants.{Events, Threads, Locks, Objects, Depth}
use Rattle.rd_rules.specs.declared.broken.Broken.{Broken}
use Rattle.rd_rules.specs.declared.causes.WfCause.{WfCause}
use Rattle.rd_rules.specs.declared.causes.WfCause.TheVariants.{HeaderFirst, LateRoot, NameTaken, UnknownThread, ThreadEnded, OwnThread, UnknownKind, UnknownObject, UnknownMethod, WrongCount, LockHeld, NotHeld, Limit}
use Rattle.rd_rules.specs.MayFollow.{passes}

-- no rule is broken
abbrev pub nothing_broken : Broken
nothing_broken = record {
  header_first = false;
  late_root = false;
  name_taken = false;
  unknown_thread = false;
  thread_ended = false;
  own_thread = false;
  unknown_kind = false;
  unknown_object = false;
  unknown_method = false;
  wrong_count = false;
  held_by = None;
  not_held = false;
  events = false;
  threads = false;
  locks = false;
  objects = false;
  depth = false;
}

-- the flag of a cause
abbrev pub flag : Broken → WfCause → Bool
flag broken HeaderFirst = broken.header_first
flag broken LateRoot = broken.late_root
flag broken NameTaken = broken.name_taken
flag broken UnknownThread = broken.unknown_thread
flag broken ThreadEnded = broken.thread_ended
flag broken OwnThread = broken.own_thread
flag broken UnknownKind = broken.unknown_kind
flag broken UnknownObject = broken.unknown_object
flag broken UnknownMethod = broken.unknown_method
flag broken WrongCount = broken.wrong_count
flag broken (LockHeld holder) = passes broken.held_by (λ other. other == holder)
flag broken NotHeld = broken.not_held
flag broken (Limit Events most) = broken.events
flag broken (Limit Threads most) = broken.threads
flag broken (Limit Locks most) = broken.locks
flag broken (Limit Objects most) = broken.objects
flag broken (Limit Depth most) = broken.depth
flag broken (Limit name most) = false
