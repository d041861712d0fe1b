-- Refusals 3, 4 and 6 of a call or declaration (document 01, "Refusals, in checking order").
-- Shape (3, 4) and times (6) stand apart: the kernel's refusal 5 comes between them.
use Rattle.std.specs.Prelude.{Bool, true, false, not, ◌&&◌, ◌||◌, List, ℕ, zero, suc, take, drop, leb, ltb, eqb}
use Rattle.calendar.specs.Limits.{is_time_of_day, is_duration, is_period}
use Rattle.layout.specs.declared.Head.{Head}
use Rattle.layout.specs.declared.Call.{Call}
use Rattle.layout.specs.declared.Form.{Form}
use Rattle.layout.specs.declared.Form.TheVariants.{Bare, Number, Continuation, DeclaredPriority, Preset, TimeOfDay, Resumption, Activation, Numbers, OneNumber}
use Rattle.layout.specs.Fields.{most_numbers}
use Rattle.layout.specs.Marks.{form}
use Rattle.lists.specs.Lists.{all_zero, distinct}

-- The largest value of a semaphore, and so of a preset.
abbrev pub most_value : ℕ
most_value = 65535

-- Start kinds: 0 none, 1 AT, 2 AFTER, 3 WHEN, 4 WHEN AFTER, 5 ALL. End kinds: 0 none, 1 UNTIL, 2 DURING.
abbrev pub last_kind : ℕ
last_kind = 5

-- The last start kind that needs no period; ALL alone is no continuation.
abbrev pub last_plain_kind : ℕ
last_plain_kind = 4

abbrev pub last_end_kind : ℕ
last_end_kind = 2

abbrev pub scheduled : ℕ → Bool
scheduled kind = ltb 0 kind

abbrev pub on_interrupt : ℕ → Bool
on_interrupt kind = eqb kind 3 || eqb kind 4

abbrev pub at_time : ℕ → Bool
at_time kind = eqb kind 1

abbrev pub after_duration : ℕ → Bool
after_duration kind = eqb kind 2 || eqb kind 4

-- ALL alone needs a period, and so does an end.
abbrev pub needs_period : ℕ → ℕ → Bool
needs_period kind endkind = eqb kind 5 || ltb 0 endkind

-- ---- 3: unused fields and ranges

-- Which fields a call uses.
pub record Used : Type 0 where
  pub number : Bool
  pub priority : Bool
  pub list : Bool
  pub kind : Bool
  pub interrupt : Bool
  pub endkind : Bool
  pub first : Bool
  pub period : Bool
  pub endtime : Bool

-- No start: number, priority, list and first time, used or not.
abbrev pub plain_use : Bool → Bool → Bool → Bool → Used
plain_use n p l f =
    record {
      number = n;
      priority = p;
      list = l;
      kind = false;
      interrupt = false;
      endkind = false;
      first = f;
      period = false;
      endtime = false;
    }

-- An activation's start kind and end kind say which of its other fields are used.
abbrev pub start : ℕ → ℕ → Used
start kind endkind =
    record {
      number = true;
      priority = true;
      list = false;
      kind = true;
      interrupt = on_interrupt kind;
      endkind = scheduled kind;
      first = at_time kind || after_duration kind;
      period = scheduled kind;
      endtime = ltb 0 endkind;
    }

-- CONTINUE and RESUME: number and priority, then the first time, used or not, and a start kind.
abbrev pub going : Bool → Bool → ℕ → Used
going n f kind =
    record {
      number = n;
      priority = n;
      list = false;
      kind = true;
      interrupt = on_interrupt kind;
      endkind = false;
      first = f;
      period = false;
      endtime = false;
    }

unfoldable pub uses : Form → Head → Used
uses Bare h = plain_use false false false false
uses Number h = plain_use true false false false
uses Continuation h = going true (at_time h.kind || after_duration h.kind) h.kind
uses DeclaredPriority h = plain_use false true false false
uses Preset h = plain_use false false false true
uses TimeOfDay h = plain_use false false false true
uses Resumption h = going false (eqb h.kind 0 || (at_time h.kind || after_duration h.kind)) h.kind
uses Activation h = start h.kind h.endkind
uses Numbers h = plain_use false false true false
uses OneNumber h = plain_use false false true false

-- A field is used or zero.
abbrev pub or_zero : Bool → ℕ → Bool
or_zero used x = used || eqb x 0

-- Number, priority and list are used or zero, and list bytes past the length are zero.
unfoldable pub clean_names : Used → Call → Bool
clean_names u c =
    or_zero u.number c.head.number
    && or_zero u.priority c.head.priority
    && or_zero u.list c.head.len
    && all_zero (drop c.head.len c.list)

-- Kinds, interrupt and times are used or zero.
unfoldable pub clean_start : Used → Head → Bool
clean_start u h =
    or_zero u.kind h.kind
    && or_zero u.interrupt h.interrupt
    && or_zero u.endkind h.endkind
    && or_zero u.first h.first
    && or_zero u.period h.period
    && or_zero u.endtime h.endtime

-- Priority, preset, kinds and list length are in range. A byte can't be a priority above 255.
unfoldable pub ranged : Form → Head → Bool
ranged Bare h = true
ranged Number h = true
ranged Continuation h = leb h.kind last_plain_kind
ranged DeclaredPriority h = leb 1 h.priority
ranged Preset h = leb h.first most_value
ranged TimeOfDay h = true
ranged Resumption h = leb h.kind last_plain_kind
ranged Activation h = leb h.kind last_kind && leb h.endkind last_end_kind
ranged Numbers h = leb h.len most_numbers
ranged OneNumber h = leb h.len most_numbers

-- The start of an activation passes refusal 3.
abbrev pub start_formed : Head → Bool
start_formed h = clean_start (start h.kind h.endkind) h && ranged Activation h

abbrev pub formed_as : Form → Call → Bool
formed_as f c = clean_names (uses f c.head) c && (clean_start (uses f c.head) c.head && ranged f c.head)

-- A call or declaration passes refusal 3.
unfoldable pub formed : Call → Bool
formed c = formed_as (form c.head.mark) c

-- ---- 4: lists

-- The numbers that a call names.
abbrev pub named : Call → List ℕ
named c = take c.head.len c.list

unfoldable pub listed : Form → Call → Bool
listed Bare c = true
listed Number c = true
listed Continuation c = true
listed DeclaredPriority c = true
listed Preset c = true
listed TimeOfDay c = true
listed Resumption c = true
listed Activation c = true
listed Numbers c = leb 1 c.head.len && distinct (named c)
listed OneNumber c = eqb c.head.len 1

-- ---- 6: times

-- An end's time: none, UNTIL a time of day, DURING a duration.
unfoldable pub end_timed : ℕ → ℕ → ℕ → Bool
end_timed day endkind t =
    (not (eqb endkind 1) || is_time_of_day day t) && (not (eqb endkind 2) || is_duration t)

-- A start's first time: AT a time of day, AFTER a duration, else none.
unfoldable pub first_timed : ℕ → ℕ → ℕ → Bool
first_timed day kind t =
    (not (at_time kind) || is_time_of_day day t) && (not (after_duration kind) || is_duration t)

-- A RESUME's first time: a duration in kind 0, else that of its start.
unfoldable pub resume_timed : ℕ → ℕ → ℕ → Bool
resume_timed day kind t = (scheduled kind || is_duration t) && first_timed day kind t

-- A period is given where one is needed.
abbrev pub given_if : Bool → ℕ → Bool
given_if needed period = not needed || ltb 0 period

-- An activation's times.
unfoldable pub start_timed : ℕ → Head → Bool
start_timed day h =
    first_timed day h.kind h.first
    && is_period h.period
    && given_if (needs_period h.kind h.endkind) h.period
    && end_timed day h.endkind h.endtime

unfoldable pub timed : ℕ → Form → Head → Bool
timed day Bare h = true
timed day Number h = true
timed day Continuation h = first_timed day h.kind h.first
timed day DeclaredPriority h = true
timed day Preset h = true
timed day TimeOfDay h = is_time_of_day day h.first
timed day Resumption h = resume_timed day h.kind h.first
timed day Activation h = start_timed day h
timed day Numbers h = true
timed day OneNumber h = true

-- ---- the numbers

-- The refusal n unless a test holds, else what the next tests give.
abbrev pub unless : Bool → ℕ → ℕ → ℕ
unless true n rest = rest
unless false n rest = n

-- The first of two refusals; 0 is none.
abbrev pub first_refusal : ℕ → ℕ → ℕ
first_refusal zero rest = rest
first_refusal (suc n) rest = suc n

-- 3 or 4, or 0.
unfoldable pub shape : Call → ℕ
shape c = unless (formed c) 3 (unless (listed (form c.head.mark) c) 4 0)

-- 6, or 0.
unfoldable pub times : ℕ → Head → ℕ
times day h = unless (timed day (form h.mark) h) 6 0

-- What the reader and the writer refuse a call or declaration with: 3, 4 or 6, or 0.
unfoldable pub refusal : ℕ → Call → ℕ
refusal day c = first_refusal (shape c) (times day c.head)
