use Rattle.std.proofs.Common.{◌≡◌, ℕ, ◌+◌, ◌≤◌, subst}
use Rattle.std.specs.Prelude.{◌↔◌, IsTrue, OnOk}
use Rattle.et_graph.specs.Cleared.{IsClearedAndTied}
use Rattle.et_graph.specs.Graph.{IsReached}
use Rattle.et_state.specs.Roots.{graph_of}
use Rattle.et_run.specs.WithTexts.{state_of}
use Rattle.et_run.specs.declared.with_texts.MachineWithTexts.{MachineWithTexts}
use Rattle.et_history.specs.Settings.{flush_visits_of, flushed_of}
use Rattle.et_run.proofs.guest.ProgramGuestGuest.flush.Goals as goal

pub returns-clause-state : goal.returns-clause-state
returns-clause-state g c here h =
    subst (λ (m : MachineWithTexts). ((o : ℕ) → IsTrue (here o) ↔ IsReached (graph_of (state_of m)) o) → OnOk c.running_flush.result (state_of c.running_flush.new.running ≡ flushed_of here (state_of m))) c.self.view_is (c.running_flush.ensures.state here) h

pub returns-clause-visits : goal.returns-clause-visits
returns-clause-visits g c here h =
    subst (λ (m : MachineWithTexts). ((o : ℕ) → IsTrue (here o) ↔ IsReached (graph_of (state_of m)) o) → c.running_flush.new.visits ≤ c.args.visits.now + flush_visits_of here (state_of m)) c.self.view_is (c.running_flush.ensures.visits here) h

pub returns-clause-graph : goal.returns-clause-graph
returns-clause-graph g c =
    subst (λ (m : MachineWithTexts). OnOk c.running_flush.result (IsClearedAndTied (graph_of (state_of m)) (graph_of (state_of c.running_flush.new.running)))) c.self.view_is c.running_flush.ensures.graph
