-- What is kept of a machine.
use Rattle.std.specs.Prelude.{◌≡◌, ℕ, ◌≤◌, List, length}
use Rattle.et_state.specs.Threads.{ThreadState, most_threads, unended_of}
use Rattle.et_state.specs.State.{MachineState}
use Rattle.et_state.specs.Texts.{no_texts}
use Rattle.et_state.specs.declared.machine.Machine.TheInside.{Inside}

abbrev pub machine_in : Inside → MachineState
machine_in m = record {
  heap = m.heap;
  guest = record {
    clock = m.clock;
    statics = m.statics.items;
    threads = m.threads.items;
    classes = m.classes.items;
    class_monitors = m.class_monitors.items;
    interned = m.interned;
    texts = no_texts;
  };
  lost = m.lost;
}

-- the threads that were started, and the list of those that have not ended
pub record AreThreads (threads : List ThreadState) (left : List ℕ) : Type 0 where
  pub few : length threads ≤ most_threads
  pub unended : left ≡ unended_of threads

abbrev pub IsMachine : Inside → Type 0
IsMachine m = AreThreads m.threads.items m.unended.items
