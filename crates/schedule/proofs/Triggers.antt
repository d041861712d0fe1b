-- What a trigger and a due leave of a schedule.
use mathlib.Core.Path.{refl}
use Rattle.schedule.specs.Schedules.{advance, last_of}
use Rattle.schedule.specs.Promises.{TriggerReplaces, AdvanceGoesOn}

pub trigger_replaces : TriggerReplaces
unfolding last_of
trigger_replaces day clock n s = (refl, refl, refl)

pub advance_goes_on : AdvanceGoesOn
unfolding advance
advance_goes_on =
    record {
      next = λ n m s e. (rw e, rw e, rw e);
      armed = λ n s e w. rw (e, w);
      gone = λ n s e w. rw (e, w);
    }
