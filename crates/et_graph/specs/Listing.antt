-- The objects of a list of flags, and the deaths that times and flags show.
use Rattle.std.specs.Prelude.{ℕ, ◌+◌, ◌&&◌, not, nat_lt, if◌then◌else◌, Bool, List, [], ◌∷◌, map}
use Rattle.et_graph.specs.declared.objects.Death.{Death}

-- the objects from number k on whose flags are set
abbrev pub flagged : ℕ → List Bool → List ℕ
flagged k [] = []
flagged k (flag ∷ flags) = if flag then k ∷ flagged (k + 1) flags else flagged (k + 1) flags

-- the objects from number k on whose times are below top and that aren't gone, with their times
abbrev pub listed : ℕ → ℕ → List ℕ → List Bool → List (ℕ × ℕ)
listed k top [] gone = []
listed k top (t ∷ times) [] = []
listed k top (t ∷ times) (flag ∷ gone) =
    if nat_lt t top && not flag then (k, t) ∷ listed (k + 1) top times gone else listed (k + 1) top times gone

-- deaths as pairs of an object and a time
abbrev pub death_pairs : List Death → List (ℕ × ℕ)
death_pairs deaths = map (λ d. (d.object, d.time)) deaths
