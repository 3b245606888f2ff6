-- How the code counts: each connection that meets a proxy has a mark for each of the proxy's toxics.
use Rattle.std.specs.Prelude.{ℕ, Bool, false, List, [], ◌∷◌, length, map, get_or, count_by, Some}
use Rattle.std.specs.List.{flat_map, range_with_len}
use Rattle.toxic_defs.specs.Toxics.{RatedKind}
use Rattle.toxic_defs.specs.DeliveredLines.{MetProxy}
use Rattle.conn_workers.specs.declared.deliveries.Delivery.{Delivery}
use Rattle.conn_workers.specs.Recordings.{Contribution, RecordingView, delivered_by, recorded_delivery_by}
use Rattle.effects.specs.declared.marks.Mark.{Mark}
use Rattle.effects.specs.EffectCounts.{PlacedToxic, Replayed, draws, has_effect, toxics_in, toxics_of}

abbrev pub contribution_in : Delivery → Contribution
contribution_in d = record { segments = d.segments; line = d.line }

-- a connection by what is recorded of it
abbrev pub replay : RecordingView → Replayed
replay r = record {
  number = r.conn.number;
  server = r.conn.server;
  contribution = λ seed s met. contribution_in (recorded_delivery_by s r (delivered_by seed s (Some met) r));
}

abbrev pub mark_of : ℕ → ℕ → MetProxy → Replayed → PlacedToxic → Mark
mark_of seed s met c x = record { drawn = draws seed s c x; has_effect = has_effect seed s met c x.direction x.place }

abbrev pub marks_in : ℕ → ℕ → MetProxy → Replayed → ℕ → List RatedKind → List Mark
marks_in seed s met c direction toxics = map (mark_of seed s met c) (toxics_in direction toxics)

abbrev pub marks_of : ℕ → ℕ → MetProxy → Replayed → List Mark
marks_of seed s met c = map (mark_of seed s met c) (toxics_of met)

-- ---- what marks tell of the toxic with a number among those of the proxy

abbrev pub no_mark : Mark
no_mark = record { drawn = false; has_effect = false }

abbrev pub draws_at : ℕ → List Mark → Bool
draws_at t marks = (get_or marks t no_mark).drawn

abbrev pub has_effect_at : ℕ → List Mark → Bool
has_effect_at t marks = (get_or marks t no_mark).has_effect

abbrev pub toxic_marks : List (List Mark) → ℕ → List ℕ
toxic_marks all t = count_by (draws_at t) all ∷ count_by (has_effect_at t) all ∷ []

abbrev pub proxy_marks : List (List Mark) → ℕ → List ℕ
proxy_marks all toxics = length all ∷ flat_map (toxic_marks all) (range_with_len 0 toxics)
