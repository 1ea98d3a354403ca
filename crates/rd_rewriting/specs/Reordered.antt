-- The lines of a trace in another order. This project's profile.
use Rattle.std.specs.Prelude.{ℕ, Bool, true, false, not, List, ◌∷◌, ◌++◌, filter, filter_map, slice_get}
use Rattle.rd_event.specs.declared.items.Line.{Line}
use Rattle.rd_event.specs.declared.items.Line.TheVariants.{Header, Object}
use Rattle.rd_rules.specs.MayFollow.{is_event, is_root, is_skip, version_of}

-- the line declares an object
abbrev pub is_declaration : Line → Bool
is_declaration (Object name kind) = true
is_declaration _ = false

-- the line isn't skipped
abbrev pub is_counted : Line → Bool
is_counted line = not (is_skip line)

-- The header, then the lines of the roots and those of the objects, as they stood, and then the events at these places, one behind another. What
-- is skipped is left out.
unfoldable pub reordered : List Line → List ℕ → List Line
reordered lines places =
    Header (version_of lines) ∷ (filter is_root lines ++ (filter is_declaration lines ++ filter_map (slice_get (filter is_event lines)) places))
