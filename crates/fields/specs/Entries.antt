-- The model's entry as the code's struct: the name is its whole field of 32 bytes.
use Rattle.fields.specs.declared.entries.Entry.{Entry}
use Rattle.model.specs.Entry as model

abbrev pub fields_of_entry : model.Entry → Entry
fields_of_entry e =
    record {
      mode = e.mode;
      length = e.length;
      created = e.created;
      first = e.first_cluster;
      dir_entry = e.dir_entry;
      modified = e.modified;
      attribute = e.attribute;
      name = e.name_field;
    }
