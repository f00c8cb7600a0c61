-- Where a word lies.
use Rattle.std.specs.Prelude.{ℕ}
use Rattle.directory.specs.Dirs.{set_of, tag_of}
use Rattle.port.specs.Memory.{line_of, offset_of}
use Rattle.bench.specs.declared.Location.{Location}

-- The line of a word and the word's offset in it, and the set and the tag by which the directory knows that line.
abbrev pub location_of : ℕ → Location
location_of word = record { line = line_of word; offset = offset_of word; set = set_of (line_of word); tag = tag_of (line_of word) }
