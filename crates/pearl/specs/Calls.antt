-- The call or declaration that each statement of a program stands for (document 01, "Records", "Start kinds").
use Rattle.std.specs.Prelude.{List, [], ◌∷◌, ℕ}
use Rattle.layout.specs.declared.Call.{Call}
use Rattle.layout.specs.Fields.{no_list}
use Rattle.layout.specs.declared.Mark.{Mark}
use Rattle.layout.specs.declared.Mark.TheVariants.{DT, DS, DB, IT, DC, AC, TE, SU, PR, CO, EN, RE, RQ, RL, TR, RS, FR, ET, LV, TG, EI, XI, TI, SL}
use Rattle.pearl.specs.declared.StartCondition.{StartCondition}

-- One number, in the first place.
abbrev pub one_number : ℕ → List ℕ
one_number n = n ∷ 0 ∷ 0 ∷ 0 ∷ []

-- A call without a start condition: mark, number, priority, length, list, first time.
abbrev pub plain_call : Mark → ℕ → ℕ → ℕ → List ℕ → ℕ → Call
plain_call mark number priority len list first =
    record {
      head =
          record {
            mark = mark;
            number = number;
            priority = priority;
            len = len;
            kind = 0;
            interrupt = 0;
            endkind = 0;
            first = first;
            period = 0;
            endtime = 0;
          };
      list = list;
    }

-- A call with a start condition: mark, task, priority, the condition's six fields, and no list.
abbrev pub start_call : Mark → ℕ → ℕ → StartCondition → Call
start_call mark task priority start =
    record {
      head =
          record {
            mark = mark;
            number = task;
            priority = priority;
            len = 0;
            kind = start.kind;
            interrupt = start.interrupt;
            endkind = start.endkind;
            first = start.first;
            period = start.period;
            endtime = start.endtime;
          };
      list = no_list;
    }

-- ---- declarations

abbrev pub task_declaration : ℕ → Call
task_declaration priority = plain_call DT 0 priority 0 no_list 0

abbrev pub semaphore_declaration : ℕ → Call
semaphore_declaration preset = plain_call DS 0 0 0 no_list preset

abbrev pub bolt_declaration : Call
bolt_declaration = plain_call DB 0 0 0 no_list 0

abbrev pub interrupt_declaration : Call
interrupt_declaration = plain_call IT 0 0 0 no_list 0

abbrev pub clock_declaration : ℕ → Call
clock_declaration time_of_day = plain_call DC 0 0 0 no_list time_of_day

-- ---- tasks

abbrev pub activate_call : ℕ → ℕ → StartCondition → Call
activate_call task priority start = start_call AC task priority start

abbrev pub terminate_call : ℕ → Call
terminate_call task = plain_call TE task 0 0 no_list 0

abbrev pub suspend_call : ℕ → Call
suspend_call task = plain_call SU task 0 0 no_list 0

abbrev pub prevent_call : ℕ → Call
prevent_call task = plain_call PR task 0 0 no_list 0

abbrev pub continue_call : ℕ → ℕ → StartCondition → Call
continue_call task priority start = start_call CO task priority start

abbrev pub end_call : Call
end_call = plain_call EN 0 0 0 no_list 0

abbrev pub resume_call : StartCondition → Call
resume_call start = start_call RE 0 0 start

-- ---- semaphores and bolts

abbrev pub request_call : ℕ → List ℕ → Call
request_call len list = plain_call RQ 0 0 len list 0

abbrev pub release_call : ℕ → List ℕ → Call
release_call len list = plain_call RL 0 0 len list 0

abbrev pub try_call : ℕ → Call
try_call semaphore = plain_call TR 0 0 1 (one_number semaphore) 0

abbrev pub reserve_call : ℕ → List ℕ → Call
reserve_call len list = plain_call RS 0 0 len list 0

abbrev pub free_call : ℕ → List ℕ → Call
free_call len list = plain_call FR 0 0 len list 0

abbrev pub enter_call : ℕ → List ℕ → Call
enter_call len list = plain_call ET 0 0 len list 0

abbrev pub leave_call : ℕ → List ℕ → Call
leave_call len list = plain_call LV 0 0 len list 0

-- ---- interrupts and the clock

abbrev pub trigger_call : ℕ → Call
trigger_call interrupt = plain_call TG interrupt 0 0 no_list 0

abbrev pub enable_call : ℕ → Call
enable_call interrupt = plain_call EI interrupt 0 0 no_list 0

abbrev pub disable_call : ℕ → Call
disable_call interrupt = plain_call XI interrupt 0 0 no_list 0

abbrev pub tick_call : Call
tick_call = plain_call TI 0 0 0 no_list 0

abbrev pub sleep_call : Call
sleep_call = plain_call SL 0 0 0 no_list 0
