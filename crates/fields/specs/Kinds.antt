-- What an entry from slot 2 on is (RULES, "Directories"), in the order in which the model's check judges it.
use Rattle.std.specs.Prelude.{cond}
use Rattle.model.specs.Entry.{Entry, is_file, is_live, is_subdirectory}
use Rattle.fields.specs.declared.kinds.Kind.TheVariants.{Bad, Dead, Directory, File}
use Rattle.fields.specs.declared.kinds.Kind.{Kind}

-- dead first; then a file by its rules, then a directory by its rules; a live entry that is neither is bad
unfoldable pub kind_of : Entry → Kind
kind_of e =
    cond (is_live e)
    (cond (is_file e) (File e.length e.first_cluster) (cond (is_subdirectory e) (Directory e.length e.first_cluster) Bad))
    Dead
