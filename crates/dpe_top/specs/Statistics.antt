-- The statistics of a report, and what a planner is asked for.
use Rattle.std.specs.Prelude.{ℕ, ◌&&◌, length, Bool, if◌then◌else◌, Option, Some, None, is_none}
use Rattle.join_graph.specs.Graphs.{JoinGraph}
use Rattle.reorder_buffer.specs.Groups.{runs, rounds}
use Rattle.planner.specs.declared.options.Options.{Options}
use Rattle.planner.specs.Enumerations.{worked_of, probes_of}
use Rattle.plan_report.specs.declared.entry.Stats.{Stats}
use Rattle.dpe_words.specs.declared.choices.Settings.{Settings}
use Rattle.dpe_top.specs.Classes.{class_of}

-- how the settings ask a query to be planned, but by so many workers
abbrev pub options_with : Settings → ℕ → Options
options_with s workers = record { enumerator = s.enumerator; buffer = s.buffer; workers = workers; class = class_of s.mode }

-- how the settings ask a query to be planned
abbrev pub options_of : Settings → Options
options_of s = options_with s s.workers

-- the settings ask for statistics, which the modes of a class don't print
abbrev pub shows_stats : Settings → Bool
shows_stats s = s.stats && is_none (class_of s.mode)

-- so many buffers, rounds and probes, where they are printed
abbrev pub stats_with : Settings → ℕ → ℕ → ℕ → Option Stats
stats_with s filled worked looked =
    if shows_stats s then Some (record { enumerator = s.enumerator; buffer = s.buffer; buffers = filled; rounds = worked; probes = looked }) else None

-- the runs of the pairs that the workers process, the groups of all runs, and the enumerator's probes
abbrev pub stats_of : Settings → JoinGraph → Option Stats
stats_of s g =
    stats_with s (length (runs s.buffer (worked_of (class_of s.mode) s.enumerator g))) (rounds s.buffer (worked_of (class_of s.mode) s.enumerator g))
    (probes_of (class_of s.mode) s.enumerator g)
