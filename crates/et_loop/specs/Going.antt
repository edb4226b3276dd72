-- WHAT HOLDS BETWEEN TWO EVENTS of a run that goes on. G is the guest, P what it runs.
use Rattle.std.specs.Prelude.{◌≡◌, ℕ, ◌≤◌, List}
use Rattle.et_base.specs.declared.format.Format.{Format}
use Rattle.et_state.specs.Naming.{Mentions}
use Rattle.et_state.specs.declared.options.Options.{Options}
use Rattle.et_loop.specs.declared.guest.Guest as guest
use Rattle.et_loop.specs.declared.program.Program as program
use Rattle.et_loop.specs.declared.schedule.Rota.{Rota}
use Rattle.et_loop.specs.Naming.{HasClasses}
use Rattle.et_loop.specs.Pace.{IsRota}
use Rattle.et_loop.specs.Stamping.{HasStamps}

-- a flush may come: the state is sound, and stamps and room have a place for each object
pub record MayFlush {M C R : Type 0} (G : guest.Ghosts M C R) (p : C) (s : G.State) (marks : List ℕ) (work : R) : Type 0 where
  pub sound : G.is_sound p s
  pub stamps : HasStamps (G.graph_of s) marks
  pub room : G.has_places work (G.graph_of s).made

-- event e, after which the guest is in this state, is not behind the limit, the rota was asked for no event behind it, and the
-- trace goes on in the format of the options, with the class of each method that it mentioned
pub record IsReady {M C R : Type 0} (G : guest.Ghosts M C R) (P : program.Ghosts C) (p : C) (options : Options) (e : ℕ) (s : G.State) (marks : List ℕ) (m : Mentions) (own : Format) (turns : Rota) (work : R) : Type 0 where
  pub flush : MayFlush G p s marks work
  pub limit : e ≤ options.limit
  pub clock : G.clock_of s ≡ e
  pub classes : HasClasses (P.names p) m
  pub format : own ≡ options.format
  pub rota : IsRota options.schedule e turns
