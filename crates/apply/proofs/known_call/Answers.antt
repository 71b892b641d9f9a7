use Rattle.apply.proofs.known_call.Goals as goal

pub returns-in-Create : goal.returns-in-Create
returns-in-Create c = rw c.in-Create.is (c.obj_create.ensures _)

pub returns-in-Delete : goal.returns-in-Delete
returns-in-Delete c = rw c.in-Delete.is (c.obj_delete.ensures _ _ c.requires)

pub returns-in-AddPassword : goal.returns-in-AddPassword
returns-in-AddPassword c = rw c.in-AddPassword.is (c.obj_passwd_add.ensures _ _ c.requires)

pub returns-in-DropPassword : goal.returns-in-DropPassword
returns-in-DropPassword c = rw c.in-DropPassword.is (c.obj_passwd_drop.ensures _ _ c.requires)

pub returns-in-Register : goal.returns-in-Register
returns-in-Register c = rw c.in-Register.is (c.obj_cre_pdx.ensures _ _ c.requires)
