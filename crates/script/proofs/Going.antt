-- What holds at the head of the script's loop, and what a turn makes of it.
use Rattle.std.specs.Prelude.{None}
use mathlib.Core.Path.{◌≡◌, refl, sym, ◌∙◌}
use mathlib.Core.Logic.{◌≢◌}
use mathlib.Core.Bool.{Bool, true, false, ◌&&◌}
use mathlib.Core.List.{List, [], ◌++◌, append-nil}
use Prim.Native.Nat.{ℕ, ◌+◌, ◌-◌, ◌≤◌, ◌<◌, min}
use native.Mathlib.Omega.{arith}
use lib.Dec.{leb, ltb}
use lib.ListN.{length, take, drop, length-take, get_or-eq_default}
use lib.Seq.{get_or-take, get_or-drop}
use borrow.Author.Tests.{leb-true, leb-false, ltb-true, ltb-false, ne_eqb}
use Rattle.calendar.specs.Limits.{day_length, tick, last_instant}
use Rattle.calendar.specs.Times.{duration, plus}
use Rattle.calendar.specs.Moments.{earlier_than}
use Rattle.layout.specs.Fields.{record_length, Octets}
use Rattle.facts.proofs.Bools.{by_bool, both}
use Rattle.machine.specs.Invariants.{IsDay, Tables}
use Rattle.machine.specs.NextEvent.{next_event}
use Rattle.machine.specs.State.{begun_at}
use Rattle.machine.specs.Step.{plain_answer, answered, step}
use Rattle.machine.specs.Test.{kernel_refusal}
use Rattle.machine.specs.declared.State.{State}
use Rattle.machine.specs.declared.Stepped.{Stepped}
use Rattle.machine.proofs.NextEvent.{next_is_next}
use Rattle.machine.proofs.Filing.{taken_next}
use Rattle.machine.proofs.Quiet.{still_taken, next_after}
use Rattle.machine.proofs.Invariants.{step_passes}
use Rattle.machine.proofs.Facts.{StateOk, ok_of_passes}
use Rattle.kernel_step.proofs.StepLaws.{step_away, quiet_tick_law}
use Rattle.lines.specs.Buffers.{placed, Wrote}
use Rattle.lines.specs.Lines.{line, longest_line}
use Rattle.lines.proofs.PlacedLaws.{then}
use Rattle.kernel_values.specs.Ticks.{is_tick, is_quiet}
use Rattle.kernel_values.proofs.TickLaws.{tick_bytes}
use Rattle.script.specs.Records.{records}
use Rattle.script.specs.Printed.{shown, printed}
use Rattle.script.specs.Script.{going_on, after_text, carried, some, Tells, Runs}
use Rattle.script.specs.declared.Script.{Script}
use Rattle.script.proofs.RecordLaws.{record_at, records_over}
use Rattle.script.proofs.CarryLaws.{goes_on_law, carried_none, carried_stop, carried_go, after_after}
use Rattle.script.proofs.PrintLaws.{says, says_line}

is_day : IsDay day_length
is_day = record { some = omega arith; room = omega arith }

-- The bytes from at up to to.
abbrev pub part : List ℕ → ℕ → ℕ → List ℕ
part s at to = take (to - at) (drop at s)

pub octets_part : (s : List ℕ) (at to : ℕ) → Octets s → Octets (part s at to)
octets_part s at to o i =
    by_bool (ltb i (to - at))
    (λ e. rw (get_or-take (to - at) (drop at s) i 0 (ltb-true _ _ e), get_or-drop at s i 0) (o (at + i)))
    (λ e.
    rw (get_or-eq_default (take (to - at) (drop at s)) 0 {n = i} (omega (arith, length-take (to - at) (drop at s), ltb-false i (to - at) e)))
    (omega arith))

-- The text so far, and what is carried on from here gives the whole.
pub record Going (bytes before : List ℕ) (start : State) (number : ℕ) (buffer : List ℕ) (k : State) (at fill : ℕ) : Type 0 where
  pub text : List ℕ
  pub wrote : Wrote before 0 text buffer fill
  pub room : fill ≤ length before
  pub long : length buffer ≡ length before
  pub within : at ≤ length bytes
  pub octets : Octets bytes
  pub tables : Tables k
  pub tested : number ≡ kernel_refusal day_length k
  pub rest : carried day_length (going_on start) (records bytes) (length before) ≡ after_text text (carried day_length (going_on k) (records (drop at bytes)) (length before - fill))

-- The loop's test: there is a next record, and room for a longest line.
abbrev pub goes : List ℕ → List ℕ → ℕ → ℕ → Bool
goes bytes buffer at fill = ltb at (length bytes) && leb longest_line (length buffer - fill)

module _ {bytes before : List ℕ} {start : State} {number : ℕ} {buffer : List ℕ} {k : State} {at fill : ℕ}
    (g : Going bytes before start number buffer k at fill) where
  pub good : number ≡ 0 → kernel_refusal day_length k ≡ 0
  good o = sym g.tested ∙ o

  ok_of : number ≡ 0 → StateOk day_length k
  ok_of o = ok_of_passes day_length k (record { tables = g.tables; tested = good o })

  pub early : number ≡ 0 → k.now.0 ≤ last_instant
  early o = (ok_of o).now_ok

  -- What is left has no room, or there is nothing left.
  told : (full : Bool) → carried day_length (going_on k) (records (drop at bytes)) (length before - fill) ≡ record { script = going_on k; text = []; left = records (drop at bytes) }
      → full ≡ some (records (drop at bytes))
      → Tells (carried day_length (going_on start) (records bytes) (length before)) bytes before buffer
      (record { script = going_on k; read = at; written = fill; full = full })
  told full e f =
      let w : carried day_length (going_on start) (records bytes) (length before) ≡ record { script = going_on k; text = g.text; left = records (drop at bytes) } =
      g.rest ∙ rw (e, append-nil g.text) in
      rw w (record { script = refl; text = g.wrote; within = g.within; rest = refl; full = f })

  pub ahead : goes bytes buffer at fill ≡ true → at < length bytes
  ahead e = ltb-true at (length bytes) (both (ltb at (length bytes)) (leb longest_line (length buffer - fill)) e).0

  pub fits : goes bytes buffer at fill ≡ true → fill + longest_line ≤ length buffer
  fits e =
      let l = leb-true longest_line (length buffer - fill) (both (ltb at (length bytes)) (leb longest_line (length buffer - fill)) e).1 in
      omega (arith, g.room, g.long)

  -- After it, what is left decides whether it is full.
  pub stopped : (p : Script) → p.kernel.state ≡ start → goes bytes buffer at fill ≡ false
      → Runs day_length p bytes before buffer (record { script = going_on k; read = at; written = fill; full = ltb at (length bytes) })
  stopped p s e =
      rw (goes_on_law p, s)
      (by_bool (ltb at (length bytes))
      (λ h.
      let i = record_at bytes at (min (at + record_length) (length bytes)) (ltb-true at (length bytes) h) refl in
      let l = leb-false longest_line (length buffer - fill) (rw h at e) in
      told (ltb at (length bytes)) (rw i (carried_stop day_length k _ _ (length before - fill) (omega (arith, g.long)))) (rw (h, i)))
      (λ h.
      let i = records_over bytes at (ltb-false at (length bytes) h) in
      told (ltb at (length bytes)) (rw i (carried_none day_length (going_on k) (length before - fill))) (rw (h, i))))

  module _ (to : ℕ) (on : goes bytes buffer at fill ≡ true) (e : to ≡ min (at + record_length) (length bytes))
      {buffer' : List ℕ} {fill' : ℕ} where
    -- One record more, with the machine's step z on it and z's line.
    turned : (z : Stepped) → z ≡ step day_length k (part bytes at to)
        → Wrote buffer fill (shown (says z) z.answer) buffer' fill' → fill' ≤ fill + longest_line → length buffer' ≡ length buffer
        → Tables z.state → number ≡ kernel_refusal day_length z.state → Going bytes before start number buffer' z.state to fill'
    turned z m w n b s v =
        let t : List ℕ = shown (says z) z.answer in
        let p : printed (part bytes at to) (step day_length k (part bytes at to)).answer ≡ t = unfold printed in rw (says_line day_length k (part bytes at to), ← m) in
        let d : length before - fill - length t ≡ length before - fill' = omega (arith, w.place) in
        record {
          text = g.text ++ t;
          wrote = then g.wrote w g.room;
          room = omega (arith, g.long, fits on);
          long = b ∙ g.long;
          within = omega arith;
          octets = g.octets;
          tables = s;
          tested = v;
          rest =
              g.rest
              ∙ rw (record_at bytes at to (ahead on) e, carried_go day_length k (part bytes at to) (records (drop to bytes)) (length before - fill) (omega (arith, g.long, fits on)), p, ← m, d)
              (after_after g.text t _);
        }

    -- A kernel turned away stays.
    pub refused : number ≢ 0 → Wrote buffer fill (line (plain_answer number None)) buffer' fill' → fill' ≤ fill + longest_line → length buffer' ≡ length buffer
        → Going bytes before start number buffer' k to fill'
    unfolding answered
    refused o w n b =
        turned (record { state = k; answer = plain_answer number None }) (step_away day_length k (part bytes at to) g.tested o) (rw (ne_eqb number 0 o) w) n b
        g.tables g.tested

    module _ (o : number ≡ 0) where
      -- Before the next event on file a tick only moves the present.
      pub moved : is_tick (part bytes at to) ≡ true → is_quiet k.now k.file.next ≡ true
          → Wrote buffer fill (line (plain_answer 0 k.file.running)) buffer' fill' → fill' ≤ fill + longest_line → length buffer' ≡ length buffer
          → Going bytes before start number buffer' (begun_at (plus k.now (duration 1)) k) to fill'
      unfolding answered is_quiet
      moved t q w n b =
          let p = both (ltb k.now.0 last_instant) (earlier_than (plus k.now (duration tick)) k.file.next) q in
          let lt = ltb-true k.now.0 last_instant p.0 in
          let e : earlier_than (plus k.now (duration tick)) (next_event k) ≡ true = rw (← taken_next day_length k (good o)) p.1 in
          let z : Stepped = record { state = begun_at (plus k.now (duration 1)) k; answer = plain_answer 0 k.file.running } in
          let m : z ≡ step day_length k (part bytes at to) = rw (tick_bytes (part bytes at to) t) (quiet_tick_law day_length k g.tables.tasks (good o) q refl) in
          let v = still_taken day_length k (plus k.now (duration 1)) (omega (arith, lt)) (omega (arith, lt)) (next_after k ((next_is_next k).quiet 1 e)) (good o) in
          turned z m w n b
          (record { tasks = g.tables.tasks; places = g.tables.places; semaphores = g.tables.semaphores; bolts = g.tables.bolts; enabled = g.tables.enabled })
          (o ∙ sym v)

      -- Any other record.
      pub stepped : (z : Stepped) → z ≡ step day_length k (part bytes at to)
          → Wrote buffer fill (shown (says z) z.answer) buffer' fill' → fill' ≤ fill + longest_line → length buffer' ≡ length buffer
          → Going bytes before start number buffer' z.state to fill'
      stepped z m w n b =
          let p = step_passes day_length is_day k (record { tables = g.tables; tested = good o }) (part bytes at to) (octets_part bytes at to g.octets) in
          turned z m w n b (rw m p.tables) (o ∙ sym (rw m p.tested))

-- Where the loop begins.
pub started : (bytes before : List ℕ) (k : State) (number : ℕ) → Octets bytes → Tables k → number ≡ kernel_refusal day_length k
    → Going bytes before k number before k 0 0
unfolding placed
started bytes before k number o t v =
    let d : length before - 0 ≡ length before = omega arith in
    record {
      text = [];
      wrote = record { place = refl; buffer = refl };
      room = omega arith;
      long = refl;
      within = omega arith;
      octets = o;
      tables = t;
      tested = v;
      rest = rw d;
    }
