use Rattle.std.proofs.Common.{◌≡◌, ◌-◌, List, [], length, take, drop}
use Rattle.forms.specs.Lines.{rows}
use Rattle.texts.specs.NetForm.{NetForm}
use Rattle.texts.specs.Reading.{Goes}
use Rattle.texts.proofs.reader.Reader.line.Given as goal

abbrev pub invariant-loop : goal.invariant-loop
invariant-loop g l =
    (l.stage.held ≡ l.counter)
    × (l.stage.sizes ≡ l.initial.stage.sizes)
    × (l.tables ≡ g.E.Entry.with_column l.initial.tables (g.E.Entry.column l.tables))
    × (drop (g.E.Entry.count l.sizes) (g.E.Entry.column l.tables) ≡ drop (g.E.Entry.count l.sizes) (g.E.Entry.column l.initial.tables))
    × (length (g.E.Entry.column l.tables) ≡ length (g.E.Entry.column l.initial.tables))
    × ((k : List g.row.E.Denot → NetForm) → Goes l.initial.self (rows (g.E.Row.form l.sizes.stations) (g.E.Entry.count l.sizes) [] k) l.self (rows (g.E.Row.form l.sizes.stations) ((g.E.Entry.count l.sizes) - l.counter) (take l.counter (g.E.Entry.column l.tables)) k))
