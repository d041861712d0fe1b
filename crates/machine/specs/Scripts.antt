-- Records as a script has them, under PEARL's names. Times are in ticks.
use Rattle.std.specs.Prelude.{List, [], ◌∷◌, ℕ, ◌*◌, length, replicate}
use Rattle.calendar.specs.Limits.{hour}
use Rattle.layout.specs.Fields.{bytes_of}
use Rattle.layout.specs.declared.Mark.{Mark}
use Rattle.layout.specs.declared.Mark.TheVariants.{DT, DS, DB, IT, DC, AC, TE, SU, PR, CO, EN, RE, RQ, RL, TR, RS, FR, ET, LV, TG, EI, TI, SL}

-- n times the same. It is shut, so that a row of a million records is never written out.
unfoldable pub row {ℓ} : {A : Type ℓ} → ℕ → A → List A
row n a = replicate n a

abbrev pub hours : ℕ → ℕ
hours h = h * hour

-- ---- without a start

-- Number, priority, list and first time of a record; the rest is zero.
abbrev pub plain_record : Mark → ℕ → ℕ → List ℕ → ℕ → List ℕ
plain_record m n p l t =
    bytes_of
    (record {
      head =
          record {
            mark = m;
            number = n;
            priority = p;
            len = length l;
            kind = 0;
            interrupt = 0;
            endkind = 0;
            first = t;
            period = 0;
            endtime = 0;
          };
      list = l;
    })

-- Its priority.
abbrev pub declare_task : ℕ → List ℕ
declare_task p = plain_record DT 0 p [] 0

-- Its preset.
abbrev pub declare_semaphore : ℕ → List ℕ
declare_semaphore v = plain_record DS 0 0 [] v

abbrev pub declare_bolt : List ℕ
declare_bolt = plain_record DB 0 0 [] 0

abbrev pub declare_interrupt : List ℕ
declare_interrupt = plain_record IT 0 0 [] 0

-- The time of day at instant 0.
abbrev pub declare_clock : ℕ → List ℕ
declare_clock t = plain_record DC 0 0 [] t

abbrev pub activate : ℕ → List ℕ
activate i = plain_record AC i 0 [] 0

abbrev pub terminate : ℕ → List ℕ
terminate i = plain_record TE i 0 [] 0

abbrev pub suspend : ℕ → List ℕ
suspend i = plain_record SU i 0 [] 0

abbrev pub prevent : ℕ → List ℕ
prevent i = plain_record PR i 0 [] 0

-- The running task ends.
abbrev pub end : List ℕ
end = plain_record EN 0 0 [] 0

abbrev pub resume_after : ℕ → List ℕ
resume_after d = plain_record RE 0 0 [] d

abbrev pub request : List ℕ → List ℕ
request l = plain_record RQ 0 0 l 0

abbrev pub release : List ℕ → List ℕ
release l = plain_record RL 0 0 l 0

abbrev pub try : ℕ → List ℕ
try s = plain_record TR 0 0 (s ∷ []) 0

abbrev pub reserve : List ℕ → List ℕ
reserve l = plain_record RS 0 0 l 0

abbrev pub free : List ℕ → List ℕ
free l = plain_record FR 0 0 l 0

abbrev pub enter : List ℕ → List ℕ
enter l = plain_record ET 0 0 l 0

abbrev pub leave : List ℕ → List ℕ
leave l = plain_record LV 0 0 l 0

abbrev pub enable : ℕ → List ℕ
enable i = plain_record EI i 0 [] 0

abbrev pub trigger : ℕ → List ℕ
trigger i = plain_record TG i 0 [] 0

abbrev pub one_tick : List ℕ
one_tick = plain_record TI 0 0 [] 0

-- To the next event.
abbrev pub sleep : List ℕ
sleep = plain_record SL 0 0 [] 0

-- ---- with a start

-- Task, priority, start kind, interrupt, end kind, first time, period and end time; the rest is zero.
abbrev pub starting : Mark → ℕ → ℕ → ℕ → ℕ → ℕ → ℕ → ℕ → ℕ → List ℕ
starting m i q k n e f p t =
    bytes_of
    (record {
      head =
          record {
            mark = m;
            number = i;
            priority = q;
            len = 0;
            kind = k;
            interrupt = n;
            endkind = e;
            first = f;
            period = p;
            endtime = t;
          };
      list = [];
    })

-- ACTIVATE: task, start kind, interrupt, end kind, first time, period and end time.
abbrev pub activation : ℕ → ℕ → ℕ → ℕ → ℕ → ℕ → ℕ → List ℕ
activation i k n e f p t = starting AC i 0 k n e f p t

infix 20 ACTIVATE◌PRIO◌ AT◌ACTIVATE◌ AT◌ALL◌UNTIL◌ACTIVATE◌ AFTER◌ACTIVATE◌ ALL◌DURING◌ACTIVATE◌ WHEN◌AFTER◌ACTIVATE◌
-- The priority of that activation only.
abbrev pub ACTIVATE◌PRIO◌ : ℕ → ℕ → List ℕ
ACTIVATE i PRIO p = starting AC i p 0 0 0 0 0 0

abbrev pub AT◌ACTIVATE◌ : ℕ → ℕ → List ℕ
AT t ACTIVATE i = activation i 1 0 0 t 0 0

abbrev pub AT◌ALL◌UNTIL◌ACTIVATE◌ : ℕ → ℕ → ℕ → ℕ → List ℕ
AT t ALL p UNTIL u ACTIVATE i = activation i 1 0 1 t p u

abbrev pub AFTER◌ACTIVATE◌ : ℕ → ℕ → List ℕ
AFTER d ACTIVATE i = activation i 2 0 0 d 0 0

abbrev pub ALL◌DURING◌ACTIVATE◌ : ℕ → ℕ → ℕ → List ℕ
ALL p DURING d ACTIVATE i = activation i 5 0 2 0 p d

abbrev pub WHEN◌AFTER◌ACTIVATE◌ : ℕ → ℕ → ℕ → List ℕ
WHEN n AFTER d ACTIVATE i = activation i 4 n 0 d 0 0

-- CONTINUE: task, priority, start kind, interrupt and first time. Priority 0 is the one current then.
abbrev pub continuing : ℕ → ℕ → ℕ → ℕ → ℕ → List ℕ
continuing i p k n f = starting CO i p k n 0 f 0 0

infix 20 CONTINUE◌PRIO◌ AT◌CONTINUE◌PRIO◌ AFTER◌CONTINUE◌PRIO◌ WHEN◌CONTINUE◌PRIO◌ WHEN◌AFTER◌CONTINUE◌PRIO◌
abbrev pub CONTINUE◌PRIO◌ : ℕ → ℕ → List ℕ
CONTINUE i PRIO p = continuing i p 0 0 0

abbrev pub AT◌CONTINUE◌PRIO◌ : ℕ → ℕ → ℕ → List ℕ
AT t CONTINUE i PRIO p = continuing i p 1 0 t

abbrev pub AFTER◌CONTINUE◌PRIO◌ : ℕ → ℕ → ℕ → List ℕ
AFTER d CONTINUE i PRIO p = continuing i p 2 0 d

abbrev pub WHEN◌CONTINUE◌PRIO◌ : ℕ → ℕ → ℕ → List ℕ
WHEN n CONTINUE i PRIO p = continuing i p 3 n 0

abbrev pub WHEN◌AFTER◌CONTINUE◌PRIO◌ : ℕ → ℕ → ℕ → ℕ → List ℕ
WHEN n AFTER d CONTINUE i PRIO p = continuing i p 4 n d

-- RESUME: start kind, interrupt and first time.
abbrev pub resuming : ℕ → ℕ → ℕ → List ℕ
resuming k n f = starting RE 0 0 k n 0 f 0 0

infix 20 AT◌RESUME AFTER◌RESUME WHEN◌RESUME WHEN◌AFTER◌RESUME
abbrev pub AT◌RESUME : ℕ → List ℕ
AT t RESUME = resuming 1 0 t

abbrev pub AFTER◌RESUME : ℕ → List ℕ
AFTER d RESUME = resuming 2 0 d

abbrev pub WHEN◌RESUME : ℕ → List ℕ
WHEN n RESUME = resuming 3 n 0

abbrev pub WHEN◌AFTER◌RESUME : ℕ → ℕ → List ℕ
WHEN n AFTER d RESUME = resuming 4 n d
