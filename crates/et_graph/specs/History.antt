-- Histories of steps, ties and flushes: when an object was last reached, its stamp, and the deaths of a flush.
use Rattle.std.specs.Prelude.{◌≡◌, ℕ, ◌+◌, ◌-◌, ◌≤◌, ◌==◌, ◌↔◌, ◌⊎◌, if◌then◌else◌, List, [], ◌∷◌, ⊤, Contains, map}
use Rattle.std.specs.List.Sorted.{IsStrictlyIncreasing}
use Rattle.std.specs.List.{list_any}
use Rattle.et_graph.specs.Graph.{Graph, nothing_made, IsMade, LeadsTo, IsReached, IsDead}
use Rattle.et_graph.specs.Steps.{Step, IsLegalStep, IsTie, IsFlush}

-- One turn: a step, a tie that led to this graph, or a flush that led to this graph and reported these objects.
pub data Turn : Type 0 where
  Took : Step → Turn
  Tied : Graph → Turn
  Flushed : Graph → List ℕ → Turn

-- A history has its newest turn first. The graph to which it leads:
abbrev pub graph_after : List Turn → Graph
graph_after [] = nothing_made
graph_after (Took s ∷ turns) = s.after
graph_after (Tied h ∷ turns) = h
graph_after (Flushed h reports ∷ turns) = h

-- each step is legal, each tie joins what is reached, and each flush reports the dead
abbrev pub IsHistory : List Turn → Type 0
IsHistory [] = ⊤
IsHistory (Took s ∷ turns) = IsHistory turns × IsLegalStep (graph_after turns) s
IsHistory (Tied h ∷ turns) = IsHistory turns × IsTie (graph_after turns) h
IsHistory (Flushed h reports ∷ turns) = IsHistory turns × IsFlush (graph_after turns) reports h

-- How many steps it has. Steps are numbered from 0, so this is the number of the next. Ties and flushes have no number.
abbrev pub steps : List Turn → ℕ
steps [] = 0
steps (Took s ∷ turns) = steps turns + 1
steps (Tied h ∷ turns) = steps turns
steps (Flushed h reports ∷ turns) = steps turns

-- a flush reported o
abbrev pub WasReported : List Turn → ℕ → Type 0
WasReported [] o = ⊥
WasReported (Took s ∷ turns) o = WasReported turns o
WasReported (Tied h ∷ turns) o = WasReported turns o
WasReported (Flushed h reports ∷ turns) o = WasReported turns o ⊎ Contains reports o

-- o is reached in the graph that step e left
abbrev pub WasReached : List Turn → ℕ → ℕ → Type 0
WasReached [] e o = ⊥
WasReached (Took s ∷ turns) e o = ((e ≡ steps turns) × IsReached s.after o) ⊎ WasReached turns e o
WasReached (Tied h ∷ turns) e o = WasReached turns e o
WasReached (Flushed h reports ∷ turns) e o = WasReached turns e o

-- e is the last step after which o is reached
pub record IsLastStep (turns : List Turn) (o e : ℕ) : Type 0 where
  pub reached : WasReached turns e o
  pub latest : (other : ℕ) → WasReached turns other o → other ≤ e

-- the step that made o, or, where that is greater, one before the last step that lost it
abbrev pub stamp : List Turn → ℕ → ℕ
stamp [] o = 0
stamp (Took s ∷ turns) o =
    if list_any (λ x. x == o) s.fresh then steps turns
    else if list_any (λ x. x == o) s.lost then steps turns - 1
    else stamp turns o
stamp (Tied h ∷ turns) o = stamp turns o
stamp (Flushed h reports ∷ turns) o = stamp turns o

-- t is the step that made o, or one before a step that lost it
abbrev pub IsMark : List Turn → ℕ → ℕ → Type 0
IsMark [] o t = ⊥
IsMark (Took s ∷ turns) o t =
    ((Contains s.fresh o × (t ≡ steps turns)) ⊎ (Contains s.lost o × (t + 1 ≡ steps turns)))
    ⊎ IsMark turns o t
IsMark (Tied h ∷ turns) o t = IsMark turns o t
IsMark (Flushed h reports ∷ turns) o t = IsMark turns o t

-- t is the greatest of these
pub record IsGreatestMark (turns : List Turn) (o t : ℕ) : Type 0 where
  pub mark : IsMark turns o t
  pub greatest : (other : ℕ) → IsMark turns o other → other ≤ t

-- t is the greatest stamp of the objects that lead to o now and for which P holds
pub record IsGreatestStamp (turns : List Turn) (P : ℕ → Type 0) (o t : ℕ) : Type 0 where
  pub source : (u : ℕ) × P u × LeadsTo (graph_after turns) u o × (stamp turns u ≡ t)
  pub greatest : (u : ℕ) → P u → LeadsTo (graph_after turns) u o → stamp turns u ≤ t

-- The stamp law.
pub record StampsTell (turns : List Turn) : Type 0 where
  -- each object made has a last step after which it was reached, and its stamp is no greater
  pub last : (o : ℕ) → IsMade (graph_after turns) o → (e : ℕ) × IsLastStep turns o e × (stamp turns o ≤ e)
  -- for one that isn't reached now it is the greatest stamp among those that lead to it
  pub unreached : (o e : ℕ) → IsMade (graph_after turns) o → ¬ IsReached (graph_after turns) o → IsLastStep turns o e
      → IsGreatestStamp turns (λ u. ⊤) o e
  -- and where it isn't gone, also among those of them that aren't gone
  pub held : (o e : ℕ) → IsDead (graph_after turns) o → IsLastStep turns o e
      → IsGreatestStamp turns (λ u. ¬ Contains (graph_after turns).gone u) o e

-- The deaths of a flush now: each dead object with the last step after which it was reached, in rising order of the objects.
pub record AreDeaths (turns : List Turn) (deaths : List (ℕ × ℕ)) : Type 0 where
  pub rising : IsStrictlyIncreasing (map (λ d. d.0) deaths)
  pub exact : (o e : ℕ) → Contains deaths (o, e) ↔ (IsDead (graph_after turns) o × IsLastStep turns o e)

-- The same list as the stamps show it: each dead object with the greatest stamp of the objects that lead to it now and
-- weren't reported.
pub record AreStamped (turns : List Turn) (deaths : List (ℕ × ℕ)) : Type 0 where
  pub rising : IsStrictlyIncreasing (map (λ d. d.0) deaths)
  pub exact : (o e : ℕ) → Contains deaths (o, e)
      ↔ (IsDead (graph_after turns) o × IsGreatestStamp turns (λ u. ¬ Contains (graph_after turns).gone u) o e)
